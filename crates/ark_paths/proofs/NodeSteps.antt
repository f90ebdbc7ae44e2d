-- Nodes that are joined one after the other.
use Rattle.std.proofs.Common.{suc, ◌≡◌, ℕ, ◌+◌, ◌-◌, ◌/◌, ◌<◌, ◌≤◌, ◌^◌, List, [], ◌∷◌, ◌++◌, length, take, get_or, arith, refl, sym, ◌∙◌, inl, inr}
use Rattle.std.proofs.lemmas.Bool.{cases_lt}
use Rattle.std.proofs.lemmas.List.{length-append, get_or_append_left, get_or_push}
use Rattle.ark_paths.specs.Bind.{couple}
use Rattle.ark_paths.specs.Nodes.{AreFirsts, AreAmongFirst, AreJoined}
use Rattle.ark_paths.specs.Index.{bit_at}
use Rattle.ark_paths.specs.Pair.{Digest}

pub length-push : {A : Type 0} (xs : List A) (x : A) → length (xs ++ x ∷ []) ≡ length xs + 1
length-push xs x = length-append xs (x ∷ [])

-- a list of numbers below another
pub inside-push : (count : ℕ) (firsts : List ℕ) (first : ℕ) → AreAmongFirst count firsts → first < count
    → AreAmongFirst count (firsts ++ first ∷ [])
inside-push count firsts first inside here = λ g below. elim (cases_lt g (length firsts)) [
  | inl lt ↦ rw (get_or_append_left firsts (first ∷ []) 0 g lt) (inside g lt)
  | inr ge ↦ rw (get_or_push firsts first 0 g (omega (arith, below, length-push firsts first))) here
]

module _ (above : List (List Digest)) (prefixes indexes : List ℕ) (level most : ℕ) (paths : List ℕ)
    (own beside : List Digest) where
  abbrev on : ℕ → List Digest
  on path = get_or above path []

  -- The nodes before one are joined: with these first paths and couples. The last of them shares with the next node
  -- what that takes.
  pub record AreJoinedTo (node : ℕ) (firsts : List ℕ) (couples : List (Digest × Digest)) : Type 0 where
    pub nodes : AreFirsts above prefixes most firsts
    pub next : (n : ℕ) → 0 < length firsts → node < length paths → n ≤ most
        → n ≤ get_or prefixes (get_or paths node 0) 0
        → take n (on (get_or firsts (length firsts - 1) 0)) ≡ take n (on (get_or paths node 0))
    pub joined : AreJoined above indexes level most firsts couples node paths own beside

  pub joined-none : AreJoinedTo 0 [] []
  joined-none = record {
    nodes = λ g n below. absurd (omega (arith, below));
    next = λ n some. absurd (omega (arith, some));
    joined = λ g below. absurd (omega (arith, below));
  }

  module _ (apart : AreFirsts above prefixes (suc most) paths) (node : ℕ) (firsts : List ℕ)
      (couples : List (Digest × Digest)) (many : length couples ≡ length firsts) (below : node < length paths)
      (before : AreJoinedTo node firsts couples) (path : ℕ) (path_is : path ≡ get_or paths node 0)
      (made : Digest × Digest)
      (made_is : made ≡ couple (bit_at (get_or indexes path 0) level) (get_or own node []) (get_or beside node []))
    where
      -- a node of its own
      pub joined-more : AreJoinedTo (node + 1) (firsts ++ path ∷ []) (couples ++ made ∷ [])
      joined-more = record { nodes = nodes; next = next; joined = joined }
        where
          long : length (firsts ++ path ∷ []) ≡ length firsts + 1
          long = length-push firsts path

          longer : length (couples ++ made ∷ []) ≡ length couples + 1
          longer = length-push couples made

          last : (g : ℕ) → g ≡ length firsts → get_or (firsts ++ path ∷ []) g 0 ≡ path
          last g is = get_or_push firsts path 0 g (sym is)

          old : (g : ℕ) → g < length firsts → get_or (firsts ++ path ∷ []) g 0 ≡ get_or firsts g 0
          old g lt = get_or_append_left firsts (path ∷ []) 0 g lt

          nodes : AreFirsts above prefixes most (firsts ++ path ∷ [])
          nodes = λ g n lt few takes. elim (cases_lt (suc g) (length firsts)) [
            | inl inner ↦ rw (old g (omega (arith, inner)), old (suc g) inner)
                (before.nodes g n inner few (rw (old (suc g) inner) at takes))
            | inr outer ↦
                let at : suc g ≡ length firsts = omega (arith, lt, outer, long) in
                let here : g ≡ length firsts - 1 = omega (arith, at) in
                let some : 0 < length firsts = omega (arith, at) in
                let taken : n ≤ get_or prefixes (get_or paths node 0) 0 =
                rw (last (suc g) at, path_is) at takes in
                rw (old g (omega (arith, at)), last (suc g) at, here, path_is) (before.next n some below few taken)
          ]

          next : (n : ℕ) → 0 < length (firsts ++ path ∷ []) → node + 1 < length paths → n ≤ most
              → n ≤ get_or prefixes (get_or paths (node + 1) 0) 0
              → take n (on (get_or (firsts ++ path ∷ []) (length (firsts ++ path ∷ []) - 1) 0))
              ≡ take n (on (get_or paths (node + 1) 0))
          next n some inside few takes =
              let at : length (firsts ++ path ∷ []) - 1 ≡ length firsts = omega (arith, long) in
              let up : node + 1 ≡ suc node = omega arith in
              rw (last (length (firsts ++ path ∷ []) - 1) at, path_is, up)
              (apart node n (omega (arith, inside)) (omega (arith, few)) (rw up at takes))

          joined : AreJoined above indexes level most (firsts ++ path ∷ []) (couples ++ made ∷ []) (node + 1) paths own
              beside
          joined = λ g lt. elim (cases_lt g node) [
            | inl inner ↦
                let j = before.joined g inner in
                let first : get_or (firsts ++ path ∷ []) j.at 0 ≡ get_or firsts j.at 0 =
                old j.at (omega (arith, j.inside, many)) in
                record {
                  at = j.at;
                  inside = omega (arith, j.inside, longer);
                  couple_is = get_or_append_left couples (made ∷ []) ([], []) j.at j.inside ∙ j.couple_is;
                  number = rw first j.number;
                  digests = rw first j.digests;
                }
            | inr outer ↦
                let here : g ≡ node = omega (arith, lt, outer) in
                let first : get_or (firsts ++ path ∷ []) (length couples) 0 ≡ path = last (length couples) many in
                record {
                  at = length couples;
                  inside = omega (arith, longer);
                  couple_is = get_or_push couples made ([], []) (length couples) refl ∙ rw (here, ← path_is) made_is;
                  number = rw (first, here, ← path_is) refl;
                  digests = rw (first, here, ← path_is) refl;
                }
          ]

      -- the last node again
      pub joined-same : 0 < length firsts → most ≤ get_or prefixes path 0
          → get_or indexes path 0 / 2 ^ suc level
          ≡ get_or indexes (get_or firsts (length firsts - 1) 0) 0 / 2 ^ suc level
          → get_or couples (length couples - 1) ([], []) ≡ made → AreJoinedTo (node + 1) firsts couples
      joined-same some shares number last = record { nodes = before.nodes; next = next; joined = joined }
        where
          alike : (n : ℕ) → n ≤ most
              → take n (on (get_or firsts (length firsts - 1) 0)) ≡ take n (on (get_or paths node 0))
          alike n few = before.next n some below few (rw (← path_is) (omega (arith, few, shares)))

          next : (n : ℕ) → 0 < length firsts → node + 1 < length paths → n ≤ most
              → n ≤ get_or prefixes (get_or paths (node + 1) 0) 0
              → take n (on (get_or firsts (length firsts - 1) 0)) ≡ take n (on (get_or paths (node + 1) 0))
          next n _ inside few takes =
              let up : node + 1 ≡ suc node = omega arith in
              alike n few
              ∙ rw up (apart node n (omega (arith, inside)) (omega (arith, few)) (rw up at takes))

          joined : AreJoined above indexes level most firsts couples (node + 1) paths own beside
          joined = λ g lt. elim (cases_lt g node) [
            | inl inner ↦ before.joined g inner
            | inr outer ↦
                let here : g ≡ node = omega (arith, lt, outer) in
                let at : length couples - 1 ≡ length firsts - 1 = omega (arith, many) in
                record {
                  at = length couples - 1;
                  inside = omega (arith, many, some);
                  couple_is = last ∙ rw (here, ← path_is) made_is;
                  number = rw (here, ← path_is, at) number;
                  digests = rw (here, at) (sym (alike most (omega arith)));
                }
          ]
