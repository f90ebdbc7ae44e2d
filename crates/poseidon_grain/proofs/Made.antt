-- Parameters that are not refused.
use Rattle.std.proofs.Common.{◌≡◌, ℕ, ◌==◌, nat_lt, Bool, true, false, if◌then◌else◌, Ok, Err}
use Rattle.ark_base.specs.Laws.Steps.{done_injective}
use Rattle.ark_base.specs.Outcome.{Outcome}
use Rattle.ark_base.specs.declared.error.Error.{Error}
use Rattle.ark_sponge.specs.Permutation.{Parameters, lawful_parameters, has_poseidon_shape}

later : (b : Bool) (e : Error) (rest : Outcome Parameters) (d : Parameters)
    → (if b then Err e else rest) ≡ Ok d → rest ≡ Ok d
later true e rest d is = absurd cc
later false e rest d is = is

shaped : (b : Bool) (e : Error) (c d : Parameters) → (if b then Ok c else Err e) ≡ Ok d → c ≡ d
shaped true e c d is = done_injective _ _ is
shaped false e c d is = absurd cc

pub made_same : (bits : ℕ) (c d : Parameters) → lawful_parameters bits c ≡ Ok d → c ≡ d
made_same bits c d is =
    shaped (has_poseidon_shape c) _ c d (later (c.rate == 0) _ _ d (later (nat_lt bits 9) _ _ d is))
