use Rattle.std.proofs.Common.{◌≡◌, ℕ, ◌<◌, eqb, slice_index, length}
use Rattle.ark_wide_fields.specs.Choices.{mask_for}
use Rattle.edwards.proofs.entries.masks_of.Given as goal

-- the masks that were written are those of the numbers that were passed
abbrev pub invariant-numbers : goal.invariant-numbers
invariant-numbers l =
    (length l.masks ≡ 16) × ((k : ℕ) → k < l.j → slice_index l.masks k ≡ mask_for (eqb k l.number))
