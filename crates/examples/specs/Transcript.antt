-- What a transcript gives.
use Rattle.std.specs.Prelude.{Ok, Err}
use Rattle.ark_base.specs.Outcome.{Outcome}

-- what is given next behind what was absorbed, with what is then left; or why nothing was absorbed
abbrev pub given_behind : {V D : Type 0} → Outcome V → (V → D × V) → Outcome (D × V)
given_behind (Ok absorbed) gives = Ok (gives absorbed)
given_behind (Err error) gives = Err error
