mod BodyLemmas
mod DigitLemmas
mod LoopLemmas
mod MetadataLemmas
