-- What the digests beside a way make of its end's digest.
use Rattle.std.proofs.Common.{suc, ◌≡◌, ℕ, ◌+◌, ◌<◌, Bool, true, false, nat_lt, if◌then◌else◌, List, [], ◌∷◌, ◌++◌, length, map, take, get_or, Ok, Err, IfOk, Option, Some, None, arith, refl, ap, sym, ◌∙◌, subst}
use Rattle.std.proofs.Math.Seq.{take-suc}
use Rattle.std.proofs.lemmas.List.{length-take-le, map-append, length-map}
use Rattle.std.proofs.lemmas.Slice.Eq.{bytes_eq-Decides}
use Rattle.std.specs.Str.{bytes_eq}
use Rattle.ark_base.specs.declared.error.Error.{Error}
use Rattle.ark_base.specs.Outcome.{Outcome, ◌>>=◌, Answers}
use Rattle.ark_base.specs.Laws.Steps.{bind_ok, done_injective}
use Rattle.merkle_map.specs.Map.{Key, Digest, Node, MapHashes, digest_of, bit_of, leaf_of, key_bits}
use Rattle.merkle_map.specs.KeyProof.{EndSeen, end_node}
use Rattle.merkle_map.specs.Way.{pair_on, way_node, is_end, value_in, climb_key, way_verdict, verdict_from}
use Rattle.merkle_map.specs.Binding.{BindsValue}
use Rattle.merkle_map.proofs.Bound.{binds}

module _ (h : MapHashes) (key : Key) where
  -- a refusal goes through
  pub climb-refused : (level : ℕ) (siblings : List Digest) (e : Error)
      → climb_key h key level siblings (Err e) ≡ Err e
  climb-refused level [] e = refl
  climb-refused level (beside ∷ rest) e = ap (λ o. o >>= λ own. digest_of h (pair_on (bit_of level key) own beside))
      (climb-refused (suc level) rest e)

  -- the last digest is hashed first
  climb-last : (level : ℕ) (siblings : List Digest) (last own : Digest)
      → climb_key h key level (siblings ++ last ∷ []) (Ok own)
      ≡ climb_key h key level siblings (digest_of h (pair_on (bit_of (level + length siblings) key) own last))
  climb-last level [] last own =
      let e : level ≡ level + length (let xs : List Digest = [] in xs) = omega arith in
      ap (λ n. digest_of h (pair_on (bit_of n key) own last)) e
  climb-last level (beside ∷ rest) last own =
      let e : suc level + length rest ≡ level + length (beside ∷ rest) = omega arith in
      ap (λ o. o >>= λ own. digest_of h (pair_on (bit_of level key) own beside))
      (climb-last (suc level) rest last own
      ∙ ap (λ n. climb_key h key (suc level) rest (digest_of h (pair_on (bit_of n key) own last))) e)

  -- one digest fewer is left
  pub climb-next : {A : Type 0} (numbers : A → Digest) (items : List A) (i n : ℕ) (item : A) (own : Digest)
      → i + 1 ≡ n → i < length items → item ≡ get_or items i item
      → climb_key h key 0 (map numbers (take n items)) (Ok own)
      ≡ climb_key h key 0 (map numbers (take i items)) (digest_of h (pair_on (bit_of i key) own (numbers item)))
  climb-next numbers items i n item own next inside is =
      let more : n ≡ suc i = omega arith in
      let front = map numbers (take i items) in
      let long : length front ≡ i = length-map (take i items) numbers
      ∙ length-take-le i items (omega (arith, inside)) in
      let all : map numbers (take n items) ≡ front ++ numbers item ∷ [] =
      ap (λ k. map numbers (take k items)) more ∙ ap (map numbers) (take-suc items i item inside)
      ∙ map-append numbers (take i items) (get_or items i item ∷ [])
      ∙ ap (λ x. front ++ numbers x ∷ []) (sym is) in
      ap (λ xs. climb_key h key 0 xs (Ok own)) all ∙ climb-last 0 front (numbers item) own
      ∙ ap (λ k. climb_key h key 0 front (digest_of h (pair_on (bit_of k key) own (numbers item))))
      (let zero_more : 0 + length front ≡ length front = omega arith in zero_more ∙ long)

  -- one level of a climb that was begun
  module _ {A : Type 0} (numbers : A → Digest) (items : List A) (i n : ℕ) (item : A) (own : Digest) (bit : Bool)
      (whole : Outcome Digest) (begun : whole ≡ climb_key h key 0 (map numbers (take n items)) (Ok own))
      (next : i + 1 ≡ n)
      (inside : i < length items) (is : item ≡ get_or items i item) (bit_is : bit ≡ bit_of i key) where
    reached : whole ≡ climb_key h key 0 (map numbers (take i items)) (digest_of h (pair_on bit own (numbers item)))
    reached = begun ∙ climb-next numbers items i n item own next inside is
        ∙ ap (λ b. climb_key h key 0 (map numbers (take i items)) (digest_of h (pair_on b own (numbers item))))
        (sym bit_is)

    pub climbed : (up : Digest) → digest_of h (pair_on bit own (numbers item)) ≡ Ok up
        → whole ≡ climb_key h key 0 (map numbers (take i items)) (Ok up)
    climbed up e = reached ∙ ap (climb_key h key 0 (map numbers (take i items))) e

    pub refused : (error : Error) → digest_of h (pair_on bit own (numbers item)) ≡ Err error → whole ≡ Err error
    refused error e = reached ∙ ap (climb_key h key 0 (map numbers (take i items))) e
        ∙ climb-refused 0 (map numbers (take i items)) error

  pub verdict-refused : (root : Digest) (siblings : List Digest) (own : Digest) (e : Error)
      → climb_key h key 0 siblings (Ok own) ≡ Err e → verdict_from h root key siblings own ≡ Err e
  verdict-refused root siblings own e is = ap (λ o. o >>= λ top. Ok (bytes_eq top root)) is

  -- the same by nodes
  joins : (level : ℕ) (beside : Digest) (below : Outcome Node)
      → ((below >>= digest_of h) >>= λ own. digest_of h (pair_on (bit_of level key) own beside))
      ≡ ((below >>= λ node. digest_of h node >>= λ own. Ok (pair_on (bit_of level key) own beside)) >>= digest_of h)
  joins level beside (Err e) = refl
  joins level beside (Ok node) = of_digest (digest_of h node)
    where
      of_digest : (digest : Outcome Digest) → (digest >>= λ own. digest_of h (pair_on (bit_of level key) own beside))
          ≡ ((digest >>= λ own. Ok (pair_on (bit_of level key) own beside)) >>= digest_of h)
      of_digest (Err e) = refl
      of_digest (Ok own) = refl

  climb-way : (level : ℕ) (siblings : List Digest) (end : Node)
      → climb_key h key level siblings (digest_of h end) ≡ (way_node h key level siblings end >>= digest_of h)
  climb-way level [] end = refl
  climb-way level (beside ∷ rest) end =
      ap (λ o. o >>= λ own. digest_of h (pair_on (bit_of level key) own beside)) (climb-way (suc level) rest end)
      ∙ joins level beside (way_node h key (suc level) rest end)

  -- what an accepted proof shows
  pub verdict-binds : (root : Digest) (siblings : List Digest) (end : Node) → is_end end ≡ true
      → way_verdict h root key siblings end ≡ Ok true → BindsValue h root key (value_in key end) siblings end
  verdict-binds root siblings end ends accepted = by_length (nat_lt key_bits (length siblings)) accepted
    where
      by_length : (long : Bool) → (if long then Ok false else (digest_of h end >>= verdict_from h root key siblings))
          ≡ Ok true → BindsValue h root key (value_in key end) siblings end
      by_length true e = absurd cc
      by_length false e =
          let own = bind_ok (digest_of h end) (verdict_from h root key siblings) true e in
          let top = bind_ok (climb_key h key 0 siblings (Ok own.0)) _ true own.2 in
          let same = (bytes_eq-Decides top.0 root).0
          (done_injective {E = Error} (bytes_eq top.0 root) true top.2) in
          binds h root key siblings end ends (sym (climb-way 0 siblings end)
          ∙ ap (climb_key h key 0 siblings) own.1 ∙ top.1 ∙ ap Ok same)

pub own_value : (key : Key) (value : Digest) → value_in key (leaf_of key value) ≡ Some value
own_value key value = let t = (bytes_eq-Decides key key).1 refl in rw t refl

pub other_value : (key other : Key) (value : Digest) → bytes_eq other key ≡ false
    → value_in key (leaf_of other value) ≡ None
other_value key other value e = rw e refl

-- what an answer of `true` shows
pub answered : {P : Type 0} (outcome : Outcome Bool) (result : Outcome Bool) → (outcome ≡ Ok true → P)
    → Answers outcome result → IfOk result (λ accepted. accepted ≡ true → P)
answered outcome (Ok accepted) shows e = λ is. shows (e ∙ ap Ok is)
answered outcome (Err error) shows e = tt

-- what a call binds of a proof, it binds of one that is seen so
pub bound_as : (h : MapHashes) (root : Digest) (key : Key) (result : Outcome Bool) {value seen : Option Digest}
    {siblings own : List Digest} {end given : EndSeen} → value ≡ seen → siblings ≡ own → end ≡ given
    → IfOk result (λ accepted. accepted ≡ true → BindsValue h root key value siblings (end_node key value end))
    → IfOk result (λ accepted. accepted ≡ true → BindsValue h root key seen own (end_node key seen given))
bound_as h root key result {value = value} {siblings = siblings} {own = own} {given = given} v s e bound =
    subst (λ o. IfOk result (λ a. a ≡ true → BindsValue h root key o own (end_node key o given))) v
    (subst (λ l. IfOk result (λ a. a ≡ true → BindsValue h root key value l (end_node key value given))) s
    (subst (λ n. IfOk result (λ a. a ≡ true → BindsValue h root key value siblings (end_node key value n))) e bound))
