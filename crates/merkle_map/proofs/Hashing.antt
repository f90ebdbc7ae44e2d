-- The digest of a fork of which both sides' digests are known.
use Rattle.std.proofs.Common.{◌≡◌, Option, Ok, sym, subst}
use Rattle.ark_base.specs.Outcome.{◌>>=◌, Outcome}
use Rattle.merkle_map.specs.Kept.{IsFor}
use Rattle.merkle_map.specs.Map.{Digest, MapHashes}
use Rattle.merkle_map.specs.Tree.{Fork, Shape, shape_digest}

-- Where the digests of both sides are known, a fork's is the hash of both.
pub fork-known : (h : MapHashes) (a b : Shape) (l r : Digest) → shape_digest h a ≡ Ok l → shape_digest h b ≡ Ok r
    → shape_digest h (Fork a b) ≡ h.pair l r
fork-known h a b l r left right = λ i. left i >>= (λ x. right i >>= h.pair x)

-- What is put for an outcome is for it, also where what it is of was written in place.
pub put-known : {D : Type 0} (numbers : D → Digest) (before now pair : Outcome Digest) (old own new : Option D)
    → now ≡ before → before ≡ pair → IsFor numbers before old → IsFor numbers pair own
    → ((outcome : Outcome Digest) → IsFor numbers outcome old → IsFor numbers outcome own → IsFor numbers outcome new)
    → IsFor numbers now new
put-known numbers before now pair old own new same is was known put =
    subst (λ o. IsFor numbers o new) (sym same) (put before was (subst (λ o. IsFor numbers o own) (sym is) known))
