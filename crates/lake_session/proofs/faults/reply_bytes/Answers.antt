use Rattle.lake_session.proofs.FaultTexts.{bad_head, bad_length, body_too_long, chunked, head_too_long}
use Rattle.lake_session.proofs.faults.reply_bytes.Goals as goal

pub returns-in-BadHead : goal.returns-in-BadHead
returns-in-BadHead c = bad_head c.args.fault c.in-BadHead.is

pub returns-in-BadLength : goal.returns-in-BadLength
returns-in-BadLength c = bad_length c.args.fault c.in-BadLength.is

pub returns-in-HeadTooLong : goal.returns-in-HeadTooLong
returns-in-HeadTooLong c = head_too_long c.args.fault c.in-HeadTooLong.is

pub returns-in-BodyTooLong : goal.returns-in-BodyTooLong
returns-in-BodyTooLong c = body_too_long c.args.fault c.in-BodyTooLong.field-0 c.in-BodyTooLong.is

pub returns-in-Chunked : goal.returns-in-Chunked
returns-in-Chunked c = chunked c.args.fault c.in-Chunked.is
