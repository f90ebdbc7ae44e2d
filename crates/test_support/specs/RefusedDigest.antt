-- A digest that refuses.
use Rattle.std.specs.Prelude.{ℕ, List, Err}
use Rattle.ark_base.specs.Outcome.{Outcome}
use Rattle.ark_base.specs.declared.error.Error.TheVariants.{GenericError}
use Rattle.ark_base.specs.declared.error.Refusal.TheVariants.{Custom}

-- the refusal, whatever the bytes
abbrev pub refused : List ℕ → Outcome (List ℕ)
refused bytes = Err (GenericError (Custom 9))
