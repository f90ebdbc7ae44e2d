-- The digest that comes with the rows of a tree.
use Rattle.std.proofs.Common.{◌≡◌, List, [], ℕ, ◌++◌, Option, Ok, Err, refl, ap, sym, ◌∙◌, subst}
use Rattle.ark_base.specs.declared.error.Error.{Error}
use Rattle.ark_base.specs.Outcome.{Outcome, ◌>>=◌}
use Rattle.merkle_map.specs.Bytes.{itself}
use Rattle.merkle_map.specs.Kept.{IsFor}
use Rattle.merkle_map.specs.Map.{Digest, Node, Leaf, Pair, MapHashes, digest_of}
use Rattle.merkle_map.specs.Rows.{row, row_behind, rows_behind, rows_of}
use Rattle.merkle_map.specs.Tree.{Shape, Empty, One, Fork, Hidden, shape_digest}

abbrev Made : Type 0
Made = Digest × List ℕ

-- the digest alone
abbrev pub digest_made : Outcome Made → Outcome Digest
digest_made made = made >>= λ m. Ok m.0

row-digest : (h : MapHashes) (rows : List ℕ) (node : Node) → digest_made (row_behind h rows node) ≡ digest_of h node
row-digest h rows node = by_digest (digest_of h node)
  where
    by_digest : (o : Outcome Digest) → digest_made (o >>= λ digest. Ok (digest, rows ++ row digest node)) ≡ o
    by_digest (Ok digest) = refl
    by_digest (Err error) = refl

pub rows-digest : (h : MapHashes) (s : Shape) → digest_made (rows_of h s) ≡ shape_digest h s
rows-digest h Empty = refl
rows-digest h (One entry) = row-digest h [] (Leaf entry)
rows-digest h (Hidden digest) = refl
rows-digest h (Fork left right) =
    by_left (rows_of h left) (rows_of h right)
    ∙ ap (λ o. o >>= λ l. digest_made (rows_of h right) >>= λ r. h.pair l r) (rows-digest h left)
    ∙ ap (λ o. shape_digest h left >>= λ l. o >>= λ r. h.pair l r) (rows-digest h right)
  where
    by_left : (a b : Outcome Made)
        → digest_made (a >>= λ l. b >>= λ r. row_behind h (l.1 ++ r.1) (Pair l.0 r.0))
        ≡ (digest_made a >>= λ l. digest_made b >>= λ r. h.pair l r)
    by_left (Ok l) (Ok r) = row-digest h (l.1 ++ r.1) (Pair l.0 r.0)
    by_left (Ok l) (Err error) = refl
    by_left (Err error) b = refl

behind-digest : (before : List ℕ) (o : Outcome Made) → digest_made (rows_behind before o) ≡ digest_made o
behind-digest before (Ok made) = refl
behind-digest before (Err error) = refl

-- the digest of a tree by what its rows are, behind others
pub digest-behind : (h : MapHashes) (s : Shape) (before : List ℕ) (o : Outcome Made)
    → rows_behind before (rows_of h s) ≡ o → shape_digest h s ≡ digest_made o
digest-behind h s before o is =
    sym (rows-digest h s) ∙ sym (behind-digest before (rows_of h s)) ∙ ap digest_made is

-- the error of a tree's digest is that of its rows
pub rows-refused : (h : MapHashes) (s : Shape) (error : Error) → shape_digest h s ≡ Err error → rows_of h s ≡ Err error
rows-refused h s error is = by_rows (rows_of h s) (rows-digest h s ∙ is)
  where
    failed : Error → Outcome Made
    failed e = Err e

    by_rows : (o : Outcome Made) → digest_made o ≡ Err error → o ≡ Err error
    by_rows (Ok made) e = absurd cc
    by_rows (Err other) e = ap failed (ap (λ (o : Outcome Digest). elim o [ Ok d ↦ other | Err x ↦ x ]) e)

-- a digest that a fork keeps is that of the digests of its sides
pub kept-pair : (h : MapHashes) (left right : Shape) (l r : Digest) (digest : Option Digest)
    → shape_digest h left ≡ Ok l → shape_digest h right ≡ Ok r → IsFor itself (shape_digest h (Fork left right)) digest
    → IsFor itself (h.pair l r) digest
kept-pair h left right l r digest on_left on_right kept =
    subst (λ o. IsFor itself o digest)
    (ap (λ o. o >>= λ l. shape_digest h right >>= λ r. h.pair l r) on_left ∙ ap (λ o. o >>= λ r. h.pair l r) on_right)
    kept
