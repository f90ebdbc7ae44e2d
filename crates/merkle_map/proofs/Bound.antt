-- A proof that leads to the root of a map says what the map has at the key, or two nodes collide.
use Rattle.std.proofs.Common.{zero, suc, ◌≡◌, ◌≢◌, ℕ, ◌-◌, ◌≤◌, ◌⊎◌, Bool, true, false, not, cond, if◌then◌else◌, List, [], ◌∷◌, length, drop, Ok, Some, arith, refl, ap, sym, ◌∙◌, subst, inl, inr}
use Rattle.std.proofs.lemmas.Slice.Eq.{bytes_eq-Decides}
use Rattle.std.specs.Str.{bytes_eq}
use Rattle.ark_base.specs.declared.error.Error.{Error}
use Rattle.ark_base.specs.Outcome.{◌>>=◌}
use Rattle.ark_base.specs.Laws.Steps.{bind_ok, done_injective}
use Rattle.merkle_map.specs.Map.{Key, Digest, Entry, Node, Nothing, Leaf, Pair, MapHashes, digest_of, bit_of, has_bit, side, node_below, key_bits, value_at}
use Rattle.merkle_map.specs.Way.{pair_on, way_node, way_root, is_end, value_in}
use Rattle.merkle_map.specs.Binding.{along, KeyCollidesAt, BindsValue}

-- ---- nodes are the same or not

pub same_lists : (x y : List ℕ) → (x ≡ y) ⊎ (x ≢ y)
same_lists x y = by_test (bytes_eq x y) refl
  where
    by_test : (b : Bool) → bytes_eq x y ≡ b → (x ≡ y) ⊎ (x ≢ y)
    by_test true e = inl ((bytes_eq-Decides x y).0 e)
    by_test false e = inr (λ same. let t = (bytes_eq-Decides x y).1 same in absurd cc)

pub same_nodes : (a b : Node) → (a ≡ b) ⊎ (a ≢ b)
same_nodes Nothing Nothing = inl refl
same_nodes Nothing (Leaf e) = inr (λ same. cc)
same_nodes Nothing (Pair x y) = inr (λ same. cc)
same_nodes (Leaf e) Nothing = inr (λ same. cc)
same_nodes (Leaf d) (Leaf e) = elim (same_lists d.key e.key) [
  | inr other ↦ inr (λ same. other (ap (λ node. elim node [ Leaf f ↦ f.key | _ ↦ [] ]) same))
  | inl k ↦ elim (same_lists d.value e.value) [
    | inr other ↦ inr (λ same. other (ap (λ node. elim node [ Leaf f ↦ f.value | _ ↦ [] ]) same))
    | inl v ↦ inl (ap (λ k. Leaf (record { key = k; value = d.value })) k
        ∙ ap (λ v. Leaf (record { key = e.key; value = v })) v)
  ]
]
same_nodes (Leaf e) (Pair x y) = inr (λ same. cc)
same_nodes (Pair x y) Nothing = inr (λ same. cc)
same_nodes (Pair x y) (Leaf e) = inr (λ same. cc)
same_nodes (Pair w x) (Pair y z) = elim (same_lists w y) [
  | inr other ↦ inr (λ same. other cc)
  | inl k ↦ elim (same_lists x z) [
    | inr other ↦ inr (λ same. other cc)
    | inl v ↦ inl cc
  ]
]

-- ---- what a key has among the entries of its side

has_own_bit : (i : ℕ) (key : Key) → has_bit (bit_of i key) i key ≡ true
has_own_bit i key = by_bit (bit_of i key)
  where
    by_bit : (b : Bool) → (if b then b else not b) ≡ true
    by_bit true = refl
    by_bit false = refl

pub value_at-side : (key : Key) (level : ℕ) (entries : List Entry)
    → value_at key (side (bit_of level key) level entries) ≡ value_at key entries
value_at-side key level [] = refl
value_at-side key level (entry ∷ entries) =
    by_tests (has_bit bit level entry.key) (bytes_eq entry.key key) refl refl (value_at-side key level entries)
  where
    bit : Bool
    bit = bit_of level key

    rest : List Entry
    rest = side bit level entries

    by_tests : (has same : Bool) → has_bit bit level entry.key ≡ has → bytes_eq entry.key key ≡ same
        → value_at key rest ≡ value_at key entries → value_at key (cond has (entry ∷ rest) rest)
        ≡ (if same then Some entry.value else value_at key entries)
    by_tests true true h e ih = rw e refl
    by_tests true false h e ih = rw e ih
    by_tests false false h e ih = ih
    by_tests false true h e ih =
        let is = (bytes_eq-Decides entry.key key).0 e in
        let own = has_own_bit level key in
        let t : has_bit bit level entry.key ≡ true = rw is own in
        absurd cc

-- ---- what a node says of the entries

-- what entries with these two digests below are
pub record IsPair (h : MapHashes) (bits level : ℕ) (entries : List Entry) (left right : Digest) : Type 0 where
  pub rest : ℕ
  pub bits_is : bits ≡ suc rest
  pub two : 2 ≤ length entries
  pub left_is : (node_below h rest (suc level) (side false level entries) >>= digest_of h) ≡ Ok left
  pub right_is : (node_below h rest (suc level) (side true level entries) >>= digest_of h) ≡ Ok right

-- two entries or more have a pair
two : (h : MapHashes) (bits level : ℕ) (x y : Entry) (more : List Entry) (node : Node)
    → node_below h (suc bits) level (x ∷ y ∷ more) ≡ Ok node
    → (left : Digest) × (right : Digest) × (node ≡ Pair left right)
    × IsPair h (suc bits) level (x ∷ y ∷ more) left right
two h bits level x y more node e =
    let entries : List Entry = x ∷ y ∷ more in
    let low = node_below h bits (suc level) (side false level entries) in
    let high = node_below h bits (suc level) (side true level entries) in
    let l = bind_ok low _ node e in
    let left = bind_ok (digest_of h l.0) _ node l.2 in
    let r = bind_ok high _ node left.2 in
    let right = bind_ok (digest_of h r.0) _ node r.2 in
    let is : Node = Pair left.0 right.0 in (
      left.0,
      right.0,
      sym (done_injective {E = Error} is node right.2),
      record {
        rest = bits;
        bits_is = refl;
        two = omega arith;
        left_is = ap (λ o. o >>= digest_of h) l.1 ∙ left.1;
        right_is = ap (λ o. o >>= digest_of h) r.1 ∙ right.1;
      },
    )

pub node-nothing : (h : MapHashes) (bits level : ℕ) (entries : List Entry)
    → node_below h bits level entries ≡ Ok Nothing → entries ≡ []
node-nothing h bits level [] e = refl
node-nothing h bits level (x ∷ []) e = absurd cc
node-nothing h zero level (x ∷ y ∷ more) e = absurd cc
node-nothing h (suc bits) level (x ∷ y ∷ more) e =
    let t = two h bits level x y more Nothing e in let is = t.2 in absurd cc

pub node-leaf : (h : MapHashes) (bits level : ℕ) (entries : List Entry) (entry : Entry)
    → node_below h bits level entries ≡ Ok (Leaf entry) → entries ≡ entry ∷ []
node-leaf h bits level [] entry e = absurd cc
node-leaf h bits level (x ∷ []) entry e =
    let s : Leaf x ≡ Leaf entry = done_injective {E = Error} (Leaf x) (Leaf entry) e in
    ap (λ node. elim node [ Leaf f ↦ f ∷ [] | _ ↦ [] ]) s
node-leaf h zero level (x ∷ y ∷ more) entry e = absurd cc
node-leaf h (suc bits) level (x ∷ y ∷ more) entry e =
    let t = two h bits level x y more (Leaf entry) e in let is = t.2 in absurd cc

pub node-pair : (h : MapHashes) (bits level : ℕ) (entries : List Entry) (left right : Digest)
    → node_below h bits level entries ≡ Ok (Pair left right) → IsPair h bits level entries left right
node-pair h bits level [] left right e = absurd cc
node-pair h bits level (x ∷ []) left right e = absurd cc
node-pair h zero level (x ∷ y ∷ more) left right e = absurd cc
node-pair h (suc bits) level (x ∷ y ∷ more) left right e =
    let t = two h bits level x y more (Pair left right) e in
    let l : t.0 ≡ left = ap (λ node. elim node [ Pair a b ↦ a | _ ↦ [] ]) (sym t.2) in
    let r : t.1 ≡ right = ap (λ node. elim node [ Pair a b ↦ b | _ ↦ [] ]) (sym t.2) in
    subst (IsPair h (suc bits) level (x ∷ y ∷ more) left) r
    (subst (λ d. IsPair h (suc bits) level (x ∷ y ∷ more) d t.1) l t.3)

-- the entries on the side where the first of two digests stands have that digest
turn : (h : MapHashes) (bits level : ℕ) (entries : List Entry) (b : Bool) (own beside : Digest)
    → node_below h bits level entries ≡ Ok (pair_on b own beside)
    → (rest : ℕ) × (bits ≡ suc rest) × ((node_below h rest (suc level) (side b level entries) >>= digest_of h) ≡ Ok own)
turn h bits level entries true own beside e =
    let p = node-pair h bits level entries beside own e in (p.rest, p.bits_is, p.right_is)
turn h bits level entries false own beside e =
    let p = node-pair h bits level entries own beside e in (p.rest, p.bits_is, p.left_is)

-- ---- from a level down

drop-next : (xs : List Digest) (n : ℕ) (x : Digest) (rest : List Digest) → drop n xs ≡ x ∷ rest
    → (drop (suc n) xs ≡ rest) × (suc n ≤ length xs)
drop-next [] zero x rest e = absurd cc
drop-next [] (suc n) x rest e = absurd cc
drop-next (y ∷ ys) zero x rest e = (ap (λ l. elim l [ [] ↦ [] | z ∷ zs ↦ zs ]) e, omega arith)
drop-next (y ∷ ys) (suc n) x rest e = let next = drop-next ys n x rest e in (next.0, omega (arith, next.1))

module _ (h : MapHashes) (entries : List Entry) (key : Key) (siblings : List Digest) (end : Node) where
  abbrev pub Says : List Entry → Type 0
  Says below = (value_at key below ≡ value_in key end)
      ⊎ ((level : ℕ) × KeyCollidesAt h entries key siblings end level)

  at_end : (bits level : ℕ) (below : List Entry) (node : Node) → end ≡ node → is_end node ≡ true
      → node_below h bits level below ≡ Ok node → value_at key below ≡ value_in key end
  at_end bits level below Nothing is ends e =
      ap (value_at key) (node-nothing h bits level below e) ∙ ap (value_in key) (sym is)
  at_end bits level below (Leaf entry) is ends e =
      ap (value_at key) (node-leaf h bits level below entry e) ∙ ap (value_in key) (sym is)
  at_end bits level below (Pair left right) is ends e = absurd cc

  -- Both nodes of a level have one hash: so they are the same, or collide there.
  met : (level : ℕ) (given own : Node) (top : Digest) → level ≤ length siblings
      → way_node h key level (drop level siblings) end ≡ Ok given
      → node_below h (key_bits - level) level (along key level entries) ≡ Ok own
      → digest_of h given ≡ Ok top → digest_of h own ≡ Ok top
      → (own ≡ given) ⊎ KeyCollidesAt h entries key siblings end level
  met level given own top inside given_is own_is given_hash own_hash = elim (same_nodes given own) [
    | inl same ↦ inl (sym same)
    | inr differ ↦ inr (record {
      inside = inside;
      given = given;
      given_is = given_is;
      own = own;
      own_is = own_is;
      differ = differ;
      common = top;
      given_hash = given_hash;
      own_hash = own_hash;
    })
  ]

  from_level : is_end end ≡ true → (rest : List Digest) (level : ℕ) (top : Digest) → drop level siblings ≡ rest
      → level ≤ length siblings → (way_node h key level rest end >>= digest_of h) ≡ Ok top
      → (node_below h (key_bits - level) level (along key level entries) >>= digest_of h) ≡ Ok top
      → Says (along key level entries)
  from_level ends [] level top is inside way tree =
      let own = bind_ok (node_below h (key_bits - level) level (along key level entries)) (digest_of h) top tree in
      let here = ap (λ rest. way_node h key level rest end) is in
      elim (met level end own.0 top inside here own.1 way own.2) [
        | inr found ↦ inr (level, found)
        | inl same ↦ inl (at_end (key_bits - level) level (along key level entries) end refl ends
            (own.1 ∙ ap Ok same))
      ]
  from_level ends (beside ∷ rest) level top is inside way tree =
      let own = bind_ok (node_below h (key_bits - level) level (along key level entries)) (digest_of h) top tree in
      let here = ap (λ rest. way_node h key level rest end) is in
      let given = bind_ok (way_node h key level (beside ∷ rest) end) (digest_of h) top way in
      let below = bind_ok (way_node h key (suc level) rest end) _ given.0 given.1 in
      let digest = bind_ok (digest_of h below.0) _ given.0 below.2 in
      let pair : Node = pair_on (bit_of level key) digest.0 beside in
      let pair_is = done_injective {E = Error} pair given.0 digest.2 in
      elim (met level given.0 own.0 top inside (here ∙ given.1) own.1 given.2 own.2) [
        | inr found ↦ inr (level, found)
        | inl same ↦
            let t = turn h (key_bits - level) level (along key level entries) (bit_of level key) digest.0 beside
            (own.1 ∙ ap Ok (same ∙ sym pair_is)) in
            let next = drop-next siblings level beside rest is in
            let bits : t.0 ≡ key_bits - suc level = omega (arith, t.1) in
            let lower = from_level ends rest (suc level) digest.0 next.0 next.1
            (ap (λ o. o >>= digest_of h) below.1 ∙ digest.1)
            (ap (λ n. node_below h n (suc level) (along key (suc level) entries) >>= digest_of h) (sym bits) ∙ t.2) in
            elim lower [
              | inr found ↦ inr found
              | inl says ↦ inl (sym (value_at-side key level (along key level entries)) ∙ says)
            ]
      ]

-- A proof that leads to a root binds what its end says of the key.
pub binds : (h : MapHashes) (root : Digest) (key : Key) (siblings : List Digest) (end : Node) → is_end end ≡ true
    → way_root h key siblings end ≡ Ok root → BindsValue h root key (value_in key end) siblings end
binds h root key siblings end ends way entries tree =
    from_level h entries key siblings end ends siblings 0 root refl (omega arith) way tree
