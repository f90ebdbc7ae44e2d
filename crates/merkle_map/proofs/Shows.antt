-- The maps that a tree shows have its digest, and those that have it are shown, or collide.
use Rattle.std.proofs.Common.{suc, ◌≡◌, ℕ, ◌-◌, ◌<◌, ◌≤◌, ◌⊎◌, Bool, true, false, List, [], ◌∷◌, length, Ok, Err, arith, refl, ap, sym, ◌∙◌, inl, inr}
use Rattle.ark_base.specs.Outcome.{Outcome, ◌>>=◌}
use Rattle.ark_base.specs.Laws.Steps.{bind_ok}
use Rattle.merkle_map.specs.Map.{Digest, Entry, Node, Nothing, Leaf, Pair, MapHashes, digest_of, side, node_below, key_bits}
use Rattle.merkle_map.specs.Tree.{Shape, Empty, One, Fork, Hidden, shape_digest, digest_at, Shows, top_of, TopsCollide, ShowsOrCollides}
use Rattle.merkle_map.proofs.Bound.{same_nodes, node-nothing, node-leaf, node-pair}

module _ (h : MapHashes) where
  -- ---- what is shown has the digest

  -- the digest of two entries or more
  digest-two : (bits level : ℕ) (entries : List Entry) → 2 ≤ length entries
      → (node_below h (suc bits) level entries >>= digest_of h)
      ≡ ((node_below h bits (suc level) (side false level entries) >>= digest_of h) >>= λ l.
      (node_below h bits (suc level) (side true level entries) >>= digest_of h) >>= λ r. h.pair l r)
  digest-two bits level [] two = absurd (omega arith)
  digest-two bits level (x ∷ []) two = absurd (omega arith)
  digest-two bits level (x ∷ y ∷ more) two =
      of_nodes (node_below h bits (suc level) (side false level (x ∷ y ∷ more)))
      (node_below h bits (suc level) (side true level (x ∷ y ∷ more)))
    where
      right : (left : Digest) (r : Outcome Digest)
          → ((r >>= λ right. Ok (Pair left right)) >>= digest_of h) ≡ (r >>= λ right. h.pair left right)
      right left (Err e) = refl
      right left (Ok r) = refl

      second : (left : Digest) (r : Outcome Node)
          → ((r >>= λ node. digest_of h node >>= λ right. Ok (Pair left right)) >>= digest_of h)
          ≡ ((r >>= digest_of h) >>= λ right. h.pair left right)
      second left (Err e) = refl
      second left (Ok node) = right left (digest_of h node)

      first : (l : Outcome Digest) (r : Outcome Node)
          → ((l >>= λ left. r >>= λ node. digest_of h node >>= λ right. Ok (Pair left right)) >>= digest_of h)
          ≡ (l >>= λ left. (r >>= digest_of h) >>= λ right. h.pair left right)
      first (Err e) r = refl
      first (Ok left) r = second left r

      of_nodes : (l r : Outcome Node)
          → ((l >>= λ a. digest_of h a >>= λ left. r >>= λ node. digest_of h node >>= λ right. Ok (Pair left right))
          >>= digest_of h)
          ≡ ((l >>= digest_of h) >>= λ left. (r >>= digest_of h) >>= λ right. h.pair left right)
      of_nodes (Err e) r = refl
      of_nodes (Ok node) r = first (digest_of h node) r

  pub shows-digest : (level : ℕ) (shape : Shape) (entries : List Entry) → Shows h level shape entries
      → digest_at h level entries ≡ shape_digest h shape
  shows-digest level Empty entries is = ap (digest_at h level) is
  shows-digest level (One entry) entries is = ap (digest_at h level) is
  shows-digest level (Hidden digest) entries is = is
  shows-digest level (Fork left right) entries shown =
      let bits : key_bits - level ≡ suc (key_bits - suc level) = omega (arith, shown.0) in
      ap (λ n. node_below h n level entries >>= digest_of h) bits
      ∙ digest-two (key_bits - suc level) level entries shown.1
      ∙ ap (λ o. o >>= λ l. digest_at h (suc level) (side true level entries) >>= λ r. h.pair l r)
      (shows-digest (suc level) left (side false level entries) shown.2)
      ∙ ap (λ o. shape_digest h left >>= λ l. o >>= λ r. h.pair l r)
      (shows-digest (suc level) right (side true level entries) shown.3)

  -- ---- what has the digest is shown, or collides

  -- both tops have one hash: so they are the same, or collide
  tops : (level : ℕ) (shape : Shape) (entries : List Entry) (given own : Node) (top : Digest)
      → top_of h shape ≡ Ok given → node_below h (key_bits - level) level entries ≡ Ok own
      → digest_of h given ≡ Ok top → digest_of h own ≡ Ok top → (own ≡ given) ⊎ TopsCollide h level shape entries
  tops level shape entries given own top given_is own_is given_hash own_hash = elim (same_nodes given own) [
    | inl same ↦ inl (sym same)
    | inr differ ↦ inr (record {
      given = given;
      given_is = given_is;
      own = own;
      own_is = own_is;
      differ = differ;
      common = top;
      given_hash = given_hash;
      own_hash = own_hash;
    })
  ]

  pub shows-or_collides : (level : ℕ) (shape : Shape) (entries : List Entry) (top : Digest)
      → shape_digest h shape ≡ Ok top → digest_at h level entries ≡ Ok top → ShowsOrCollides h level shape entries
  shows-or_collides level Empty entries top given tree =
      let own = bind_ok (node_below h (key_bits - level) level entries) (digest_of h) top tree in
      elim (tops level Empty entries Nothing own.0 top refl own.1 given own.2) [
        | inr found ↦ inr ([], found)
        | inl same ↦ inl (node-nothing h (key_bits - level) level entries (own.1 ∙ ap Ok same))
      ]
  shows-or_collides level (One entry) entries top given tree =
      let own = bind_ok (node_below h (key_bits - level) level entries) (digest_of h) top tree in
      elim (tops level (One entry) entries (Leaf entry) own.0 top refl own.1 given own.2) [
        | inr found ↦ inr ([], found)
        | inl same ↦ inl (node-leaf h (key_bits - level) level entries entry (own.1 ∙ ap Ok same))
      ]
  shows-or_collides level (Hidden digest) entries top given tree = inl (tree ∙ sym given)
  shows-or_collides level (Fork left right) entries top given tree =
      let own = bind_ok (node_below h (key_bits - level) level entries) (digest_of h) top tree in
      let l = bind_ok (shape_digest h left) _ top given in
      let r = bind_ok (shape_digest h right) _ top l.2 in
      let top_is : top_of h (Fork left right) ≡ Ok (Pair l.0 r.0) =
      ap (λ o. o >>= λ a. shape_digest h right >>= λ b. Ok (Pair a b)) l.1
      ∙ ap (λ o. o >>= λ b. Ok (Pair l.0 b)) r.1 in
      elim (tops level (Fork left right) entries (Pair l.0 r.0) own.0 top top_is own.1 r.2 own.2) [
        | inr found ↦ inr ([], found)
        | inl same ↦
            let p = node-pair h (key_bits - level) level entries l.0 r.0 (own.1 ∙ ap Ok same) in
            let bits : p.rest ≡ key_bits - suc level = omega (arith, p.bits_is) in
            let inside : level < key_bits = omega (arith, p.bits_is) in
            let at : Bool → ℕ → Outcome Digest =
            λ b n. node_below h n (suc level) (side b level entries) >>= digest_of h in
            both level left right entries inside p.two
            (shows-or_collides (suc level) left (side false level entries) l.0 l.1
            (ap (at false) (sym bits) ∙ p.left_is))
            (shows-or_collides (suc level) right (side true level entries) r.0 r.1
            (ap (at true) (sym bits) ∙ p.right_is))
      ]
    where
      both : (level : ℕ) (left right : Shape) (entries : List Entry) → level < key_bits → 2 ≤ length entries
          → ShowsOrCollides h (suc level) left (side false level entries)
          → ShowsOrCollides h (suc level) right (side true level entries)
          → ShowsOrCollides h level (Fork left right) entries
      both level left right entries inside two (inr found) right_shown = inr (false ∷ found.0, found.1)
      both level left right entries inside two (inl shown) (inr found) = inr (true ∷ found.0, found.1)
      both level left right entries inside two (inl l) (inl r) = inl (inside, two, l, r)
