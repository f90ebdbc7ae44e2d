use Rattle.std.proofs.Common.{◌≡◌, ℕ, ◌<◌, get_or}
use Rattle.ark_signatures.specs.SecretShares.{share_places, ArePlaces}
use Rattle.ark_signatures.proofs.secret_shares.check_places.Given as goal

-- no place up to here is this one
abbrev pub invariant-loop-i : goal.invariant-loop-i
invariant-loop-i g l =
    let value = g.F.Valued.value in
    (i : ℕ) → i < l.i → get_or (share_places value l.shares) i 0 ≡ value l.place → ⊥

abbrev pub invariant-loop-j : goal.invariant-loop-j
invariant-loop-j g l = ArePlaces (share_places g.F.Valued.value l.shares) l.j
