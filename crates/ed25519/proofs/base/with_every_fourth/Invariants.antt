use Rattle.std.proofs.Common.{◌≡◌, ℕ, ◌+◌, ◌/◌, ◌^◌}
use Rattle.ark_groups.specs.Group.{times}
use Rattle.ark_groups.specs.Words.{number}
use Rattle.edwards.specs.Extended.{Stands}
use Rattle.ed25519.specs.Edwards25519.{curve, base_point}
use Rattle.ed25519.specs.Multiples.{every_fourth}
use Rattle.ed25519.proofs.base.with_every_fourth.Given as goal

-- the digits so far were added, and the others are left
abbrev pub invariant-loop-i : goal.invariant-loop-i
invariant-loop-i l =
    (number l.rest ≡ number l.fn.scalar / 65536 ^ l.i) × ((m : ℕ) → Stands l.fn.sum (times curve m base_point)
    → Stands l.so_far (times curve (m + every_fourth l.i (number l.fn.scalar)) base_point))
