use Rattle.head_drafts.proofs.WaitingLemmas.{later_swap}
use Rattle.head_drafts.proofs.waiting.law_of_later_swaps.Goals as goal

pub returns : goal.returns
returns g c before now later repo branch kind about head waits same goes_on stands =
    later_swap before now later repo branch kind about head waits same goes_on stands.legal
