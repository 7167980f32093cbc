mod CutLemmas
mod LineLemmas
mod ReadLemmas
mod RestLemmas
mod ClapLemmas
