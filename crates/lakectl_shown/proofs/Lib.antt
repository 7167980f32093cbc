mod FormLemmas
mod LeftLemmas
