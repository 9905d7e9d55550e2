-- What was printed is neither a refusal nor unfinished.
use Rattle.tso_cli.proofs.Vocabulary.{inl, inr, Refused, Unended, IsPrinted}

pub refused-is-none : IsPrinted Refused → ⊥
refused-is-none (inl is) = let no : ⊥ = cc in no
refused-is-none (inr is) = let no : ⊥ = cc in no

pub unended-is-none : IsPrinted Unended → ⊥
unended-is-none (inl is) = let no : ⊥ = cc in no
unended-is-none (inr is) = let no : ⊥ = cc in no
