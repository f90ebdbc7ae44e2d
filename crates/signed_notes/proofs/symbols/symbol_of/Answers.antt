use Rattle.std.proofs.Common.{ℕ, ◌+◌, ◌-◌, ◌*◌, ◌/◌, ◌==◌, slice_index, refl}
use Rattle.std.proofs.lemmas.Bool.{eqb-true}
use Rattle.base64.proofs.Tables.{all_below_at}
use Rattle.base64.specs.Engines.{standard}
use Rattle.base64.specs.GeneralPurpose.{engine_symbols}
use Rattle.signed_notes.proofs.symbols.symbol_of.Goals as goal

-- whether a value is at least another one, as 1 or 0
abbrev over : ℕ → ℕ → ℕ
over bound value = (value + 64 - bound) / 64

-- the symbol of a value, by sums
abbrev by_sums : ℕ → ℕ
by_sums v = v + (65 + 6 * over 26 v + 3 * over 63 v) - (75 * over 52 v + 15 * over 62 v)

pub returns : goal.returns
returns c =
    let v = c.args.value in
    let all = all_below_at (λ v. by_sums v == slice_index (engine_symbols standard) v) 64 v refl c.requires in
    rw (c.at_least.ensures.test, c.at_least-2.ensures.test, c.at_least-3.ensures.test, c.at_least-4.ensures.test)
    (eqb-true (by_sums v) (slice_index (engine_symbols standard) v) all)
