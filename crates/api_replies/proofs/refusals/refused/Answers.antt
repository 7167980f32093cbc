use Rattle.api_replies.proofs.refusals.refused.Goals as goal

pub returns-in-NoRepo : goal.returns-in-NoRepo
returns-in-NoRepo c = rw (c.in-NoRepo.is, ← c.as_str.ensures.bytes) c.named.ensures

pub returns-in-NoRef : goal.returns-in-NoRef
returns-in-NoRef c = rw (c.in-NoRef.is, ← c.as_str-in-NoRef.ensures.bytes) c.named-in-NoRef.ensures

pub returns-in-NoPath : goal.returns-in-NoPath
returns-in-NoPath c = rw (c.in-NoPath.is, ← c.as_str-in-NoPath.ensures.bytes) c.named-in-NoPath.ensures

pub returns-in-NoNote : goal.returns-in-NoNote
returns-in-NoNote c = rw c.in-NoNote.is c.fault.ensures

pub returns-in-Exists : goal.returns-in-Exists
returns-in-Exists c = rw (c.in-Exists.is, ← c.as_str-in-Exists.ensures.bytes) c.named-in-Exists.ensures

pub returns-in-DefaultBranch : goal.returns-in-DefaultBranch
returns-in-DefaultBranch c = rw c.in-DefaultBranch.is c.fault-in-DefaultBranch.ensures

pub returns-in-Protected : goal.returns-in-Protected
returns-in-Protected c = rw c.in-Protected.is c.numbered.ensures

pub returns-in-NoChanges : goal.returns-in-NoChanges
returns-in-NoChanges c = rw c.in-NoChanges.is c.fault-in-NoChanges.ensures

pub returns-in-Dirty : goal.returns-in-Dirty
returns-in-Dirty c = rw (c.in-Dirty.is, ← c.as_str-in-Dirty.ensures.bytes) c.named-in-Dirty.ensures

pub returns-in-Conflicts : goal.returns-in-Conflicts
returns-in-Conflicts c = rw c.in-Conflicts.is c.numbered-in-Conflicts.ensures

pub returns-in-HookDenied : goal.returns-in-HookDenied
returns-in-HookDenied c = rw c.in-HookDenied.is c.numbered-in-HookDenied.ensures

pub returns-in-NeedsParentNumber : goal.returns-in-NeedsParentNumber
returns-in-NeedsParentNumber c = rw c.in-NeedsParentNumber.is c.fault-in-NeedsParentNumber.ensures

pub returns-in-Expired : goal.returns-in-Expired
returns-in-Expired c = rw c.in-Expired.is c.with_id.ensures

pub returns-in-Gone : goal.returns-in-Gone
returns-in-Gone c = rw (c.in-Gone.is, ← c.as_str-in-Gone.ensures.bytes) c.named-in-Gone.ensures

pub returns-in-NotHeld : goal.returns-in-NotHeld
returns-in-NotHeld c = rw (c.in-NotHeld.is, ← c.as_str-in-NotHeld.ensures.bytes) c.named-in-NotHeld.ensures

pub returns-in-TooManyTries : goal.returns-in-TooManyTries
returns-in-TooManyTries c = rw c.in-TooManyTries.is c.fault-in-TooManyTries.ensures

pub returns-in-Lost : goal.returns-in-Lost
returns-in-Lost c = rw (c.in-Lost.is, ← c.as_str-in-Lost.ensures.bytes) c.named-in-Lost.ensures

pub returns-in-Damaged : goal.returns-in-Damaged
returns-in-Damaged c = rw (c.in-Damaged.is, ← c.as_str-in-Damaged.ensures.bytes) c.named-in-Damaged.ensures

pub returns-in-NameClash : goal.returns-in-NameClash
returns-in-NameClash c = rw c.in-NameClash.is c.with_id-in-NameClash.ensures

pub returns-in-BlockFault : goal.returns-in-BlockFault
returns-in-BlockFault c = rw c.in-BlockFault.is c.fault-in-BlockFault.ensures

pub returns-in-StoreFault : goal.returns-in-StoreFault
returns-in-StoreFault c = rw c.in-StoreFault.is c.fault-in-StoreFault.ensures

pub returns-in-Stopped : goal.returns-in-Stopped
returns-in-Stopped c = rw c.in-Stopped.is c.fault-in-Stopped.ensures

pub returns-in-HistoryFull : goal.returns-in-HistoryFull
returns-in-HistoryFull c = rw c.in-HistoryFull.is c.fault-in-HistoryFull.ensures
