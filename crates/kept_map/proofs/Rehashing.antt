-- Digests that are written into forks.
use Rattle.std.proofs.Common.{◌≡◌, ◌⊎◌, ◌<◌, ◌+◌, ◌*◌, ℕ, List, [], ◌++◌, length, true, false, get_or, take, drop, set, replicate, Ok, arith, refl, ap, sym, ◌∙◌, subst, inl, inr}
use Rattle.std.proofs.lemmas.Bool.{cases_eq}
use Rattle.std.proofs.lemmas.Slice.Eq.{bytes_eq-Decides}
use Rattle.std.specs.Str.{bytes_eq}
use Rattle.std.proofs.lemmas.List.{get_or-take, get_or-set_same, get_or-set_other, length-set, length-take, take-append-drop, take_at, drop-drop, drop_at}
use Rattle.ark_base.specs.Digits.{number_of_bytes}
use Rattle.merkle_map.specs.Map.{Digest, MapHashes}
use Rattle.merkle_map.specs.Tree.{Shape, Empty, One, Fork, Hidden, shape_digest}
use Rattle.ark_base.specs.Outcome.{◌>>=◌}
use Rattle.kept_map.specs.Digests.{IsDigestAt, IsRehashed}
use Rattle.kept_map.specs.KeptMap.{IsKeptFor, LaidAt, kept_digest, kept_hashes, left_at, right_at}
use Rattle.kept_map.proofs.Lies.{lies-entry, lies-fork, lies-nothing}

-- ---- trees lie where they lay

module _ (h : MapHashes) (entries old new : List (List ℕ)) (re : IsRehashed h entries old new) where
  kept-fork : (first count k : ℕ) (left right : Shape)
      → LaidAt h (take first entries) old count (2 * k + 2) (Fork left right)
      → IsKeptFor (shape_digest h (Fork left right)) (kept_digest old k)
      → (kept_digest new k ≡ kept_digest old k)
      ⊎ ((kept_digest old k ≡ replicate 32 0) × IsDigestAt h entries old (2 * k + 2) (kept_digest new k))
      → IsKeptFor (shape_digest h (Fork left right)) (kept_digest new k)
  kept-fork first count k left right lies kept (inl same) =
      subst (IsKeptFor (shape_digest h (Fork left right))) (sym same) kept
  kept-fork first count k left right lies kept (inr more) = inr (more.1 first count (Fork left right) lies)

  pub still-lies : (first count number : ℕ) (tree : Shape) → LaidAt h (take first entries) old count number tree
      → LaidAt h (take first entries) new count number tree
  still-lies first count number Empty lies = lies
  still-lies first count number (One entry) lies = lies
  still-lies first count number (Hidden digest) lies = absurd lies
  still-lies first count number (Fork left right) lies =
      let k = lies.0 in (
        k,
        lies.1,
        lies.2,
        kept-fork first count k left right (k, refl, lies.2, lies.3, lies.4, lies.5) lies.3 (re.digests k),
        subst (λ n. LaidAt h (take first entries) new k n left) (sym (re.left k))
            (still-lies first k (left_at old k) left lies.4),
        subst (λ n. LaidAt h (take first entries) new k n right) (sym (re.right k))
            (still-lies first k (right_at old k) right lies.5),
      )

  -- what is the digest of all that lies there is that of all that lay there
  pub digest-before : (number : ℕ) (digest : Digest) → IsDigestAt h entries new number digest
      → IsDigestAt h entries old number digest
  digest-before number digest is = λ first count tree lies.
      is first count tree (still-lies first count number tree lies)

module _ (h : MapHashes) (entries : List (List ℕ)) where
  pub rehashed-none : (forks : List (List ℕ)) → IsRehashed h entries forks forks
  rehashed-none forks = record { size = refl; left = λ k. refl; right = λ k. refl; digests = λ k. inl refl }

  pub rehashed-more : (old mid new : List (List ℕ)) → IsRehashed h entries old mid → IsRehashed h entries mid new
      → IsRehashed h entries old new
  rehashed-more old mid new a b = record {
    size = b.size ∙ a.size;
    left = λ k. b.left k ∙ a.left k;
    right = λ k. b.right k ∙ a.right k;
    digests = λ k. by_last k (a.digests k) (b.digests k);
  }
    where
      by_first : (k : ℕ) → kept_digest mid k ≡ replicate 32 0
          → (kept_digest mid k ≡ kept_digest old k)
          ⊎ ((kept_digest old k ≡ replicate 32 0) × IsDigestAt h entries old (2 * k + 2) (kept_digest mid k))
          → kept_digest old k ≡ replicate 32 0
      by_first k none (inl same) = sym same ∙ none
      by_first k none (inr more) = more.0

      by_last : (k : ℕ)
          → (kept_digest mid k ≡ kept_digest old k)
          ⊎ ((kept_digest old k ≡ replicate 32 0) × IsDigestAt h entries old (2 * k + 2) (kept_digest mid k))
          → (kept_digest new k ≡ kept_digest mid k)
          ⊎ ((kept_digest mid k ≡ replicate 32 0) × IsDigestAt h entries mid (2 * k + 2) (kept_digest new k))
          → (kept_digest new k ≡ kept_digest old k)
          ⊎ ((kept_digest old k ≡ replicate 32 0) × IsDigestAt h entries old (2 * k + 2) (kept_digest new k))
      by_last k (inl first) (inl last) = inl (last ∙ first)
      by_last k (inr first) (inl last) =
          inr (first.0, subst (IsDigestAt h entries old (2 * k + 2)) (sym last) first.1)
      by_last k first (inr last) =
          inr (by_first k last.0 first, digest-before h entries old mid a (2 * k + 2) (kept_digest new k) last.1)

-- ---- a digest is written

module _ (forks : List (List ℕ)) (k : ℕ) (digest : Digest) (inside : k < length forks) (long : length digest ≡ 32) where
  abbrev fork : List ℕ
  fork = digest ++ drop 32 (get_or forks k [])

  abbrev written : List (List ℕ)
  written = set forks k fork

  here : get_or written k [] ≡ fork
  here = get_or-set_same forks k fork [] inside

  behind : (n : ℕ) → drop 32 (get_or written n []) ≡ drop 32 (get_or forks n [])
  behind n = by_place (cases_eq n k)
    where
      by_place : (n ≡ k) ⊎ (n ≡ k → ⊥) → drop 32 (get_or written n []) ≡ drop 32 (get_or forks n [])
      by_place (inl same) = subst (λ n. drop 32 (get_or written n []) ≡ drop 32 (get_or forks n [])) (sym same)
          (ap (drop 32) here ∙ drop_at digest (drop 32 (get_or forks k [])) 32 long)
      by_place (inr other) = ap (drop 32) (get_or-set_other forks k n fork [] other)

  last : (n : ℕ) → drop 40 (get_or written n []) ≡ drop 40 (get_or forks n [])
  last n = sym (drop-drop 8 32 (get_or written n [])) ∙ ap (drop 8) (behind n) ∙ drop-drop 8 32 (get_or forks n [])

  digest_here : kept_digest written k ≡ digest
  digest_here = ap (take 32) here ∙ take_at digest (drop 32 (get_or forks k [])) 32 long

  digest_there : (n : ℕ) → (n ≡ k → ⊥) → kept_digest written n ≡ kept_digest forks n
  digest_there n other = ap (take 32) (get_or-set_other forks k n fork [] other)

  pub rehashed-at : (h : MapHashes) (entries old : List (List ℕ)) → IsRehashed h entries old forks
      → kept_digest old k ≡ replicate 32 0 → IsDigestAt h entries old (2 * k + 2) digest
      → IsRehashed h entries old written
  rehashed-at h entries old a none is = record {
    size = length-set forks k fork ∙ a.size;
    left = λ n. ap (λ bytes. number_of_bytes (take 8 bytes)) (behind n) ∙ a.left n;
    right = λ n. ap number_of_bytes (last n) ∙ a.right n;
    digests = λ n. by_place n (cases_eq n k);
  }
    where
      by_place : (n : ℕ) → (n ≡ k) ⊎ (n ≡ k → ⊥)
          → (kept_digest written n ≡ kept_digest old n)
          ⊎ ((kept_digest old n ≡ replicate 32 0) × IsDigestAt h entries old (2 * n + 2) (kept_digest written n))
      by_place n (inl same) =
          subst (λ n. (kept_digest written n ≡ kept_digest old n)
          ⊎ ((kept_digest old n ≡ replicate 32 0) × IsDigestAt h entries old (2 * n + 2) (kept_digest written n)))
          (sym same) (inr (none, subst (IsDigestAt h entries old (2 * k + 2)) (sym digest_here) is))
      by_place n (inr other) =
          subst (λ d. (d ≡ kept_digest old n)
          ⊎ ((kept_digest old n ≡ replicate 32 0) × IsDigestAt h entries old (2 * n + 2) d))
          (sym (digest_there n other)) (a.digests n)

-- ---- what is hashed

module _ (leaf : List ℕ → List ℕ) (node : List ℕ → List ℕ → List ℕ) (none : Digest) where
  abbrev h : MapHashes
  h = kept_hashes leaf node none

  pub nothing-digest : (entries forks : List (List ℕ)) (number : ℕ) → number ≡ 0
      → IsDigestAt h entries forks number none
  nothing-digest entries forks number e = λ first count tree lies.
      ap (shape_digest h) (lies-nothing h (take first entries) forks count number tree e lies)

  pub entry-digest : (entries forks : List (List ℕ)) (number k : ℕ) → number ≡ 2 * k + 1
      → IsDigestAt h entries forks number (leaf (get_or entries k []))
  entry-digest entries forks number k e = λ first count tree lies.
      let there = lies-entry h (take first entries) forks count number k tree e lies in
      let inside : k < first = let long = length-take first entries in let within = there.0 in omega arith in
      let same = get_or-take first entries k [] inside in
      ap (shape_digest h) there.1
      ∙ ap (λ bytes. Ok (leaf bytes)) (take-append-drop 32 (get_or (take first entries) k []) ∙ same)

  pub fork-digest : (entries old mid : List (List ℕ)) (number k : ℕ) (left right : Digest) → number ≡ 2 * k + 2
      → IsDigestAt h entries old (left_at old k) left → IsRehashed h entries old mid
      → IsDigestAt h entries mid (right_at mid k) right
      → IsDigestAt h entries old number (node left right)
  fork-digest entries old mid number k left right e on_left re on_right = λ first count tree lies.
      let it = lies-fork h (take first entries) old count number k tree e lies in
      let l = on_left first k it.left it.on_left in
      let r = digest-before h entries old mid re (right_at old k) right
      (subst (λ n. IsDigestAt h entries mid n right) (re.right k) on_right) first k it.right it.on_right in
      ap (shape_digest h) it.is
      ∙ ap (λ o. o >>= λ l. shape_digest h it.right >>= λ r. h.pair l r) l
      ∙ ap (λ o. o >>= λ r. h.pair left r) r

pub kept-digest : (h : MapHashes) (entries forks : List (List ℕ)) (number k : ℕ) → number ≡ 2 * k + 2
    → bytes_eq (kept_digest forks k) (replicate 32 0) ≡ false → IsDigestAt h entries forks number (kept_digest forks k)
kept-digest h entries forks number k e some = λ first count tree lies.
    by_kept tree (lies-fork h (take first entries) forks count number k tree e lies).digest
  where
    by_kept : (tree : Shape) → IsKeptFor (shape_digest h tree) (kept_digest forks k)
        → shape_digest h tree ≡ Ok (kept_digest forks k)
    by_kept tree (inl none) =
        let same = (bytes_eq-Decides (kept_digest forks k) (replicate 32 0)).1 none in absurd cc
    by_kept tree (inr is) = is

-- what is not hashed has 32 zeros
pub unhashed : (digest : Digest) → bytes_eq digest (replicate 32 0) ≡ true → digest ≡ replicate 32 0
unhashed digest is = (bytes_eq-Decides digest (replicate 32 0)).0 is
