mod OutsideLemmas
