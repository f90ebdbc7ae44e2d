-- A tree's own proof of one key, and what an accepted proof binds.
use Rattle.std.proofs.Common.{suc, ◌≡◌, ℕ, ◌+◌, ◌≤◌, Bool, true, false, nat_lt, if◌then◌else◌, Option, Some, None, List, [], ◌∷◌, ◌++◌, length, Ok, Err, arith, refl, ap, sym, ◌∙◌, subst}
use Rattle.std.proofs.lemmas.List.{append_assoc}
use Rattle.std.proofs.lemmas.Bool.{le-ltb}
use Rattle.std.proofs.lemmas.Slice.Eq.{bytes_eq-Decides}
use Rattle.std.specs.Str.{bytes_eq}
use Rattle.ark_base.specs.declared.error.Error.{Error}
use Rattle.ark_base.specs.Outcome.{Outcome, ◌>>=◌}
use Rattle.ark_base.specs.Laws.Steps.{bind_ok, done_injective}
use Rattle.merkle_map.specs.Map.{Key, Digest, Entry, Node, Nothing, Leaf, MapHashes, digest_of, bit_of, leaf_of, key_bits}
use Rattle.merkle_map.specs.Tree.{Shape, Empty, One, Fork, Hidden, shape_digest, StandsAt}
use Rattle.merkle_map.specs.Changes.{known_at, own_value}
use Rattle.merkle_map.specs.Way.{pair_on, climb_key, way_verdict, verdict_from}
use Rattle.merkle_map.specs.KeyProof.{EndSeen, AtNothing, AtOwn, AtOther, ProofSeen, proof_at, end_at, end_node, below, with_digests_above, behind_all, end_verdict, IsKeyProofAccepted}
use Rattle.merkle_map.proofs.Climb.{climb-refused}
use Rattle.merkle_map.proofs.Places.{if_false}

-- ---- digests behind others

behind-twice : (a b : List Digest) (o : Outcome ProofSeen)
    → behind_all (a ++ b) o ≡ (o >>= λ proof. Ok (with_digests_above a (with_digests_above b proof)))
behind-twice a b (Ok proof) =
    ap (λ (l : List Digest). Ok (record { end = proof.end; siblings = l })) (append_assoc a b proof.siblings)
behind-twice a b (Err error) = refl

one-more : (a : List Digest) (d : Digest) (o : Outcome ProofSeen)
    → behind_all a (o >>= λ proof. Ok (below d proof)) ≡ behind_all (a ++ d ∷ []) o
one-more a d (Err error) = refl
one-more a d (Ok proof) =
    ap (λ (l : List Digest). Ok (record { end = proof.end; siblings = l })) (sym (append_assoc a
    (d ∷ []) proof.siblings))

-- one level down, in a tree that forks
module _ (h : MapHashes) (level : ℕ) (key : Key) {whole left right : Shape} (fork : whole ≡ Fork left right) where
  pub down-on : (b : Bool) (digests : List Digest) (d : Digest) → bit_of level key ≡ b
      → shape_digest h (if b then left else right) ≡ Ok d
      → behind_all digests (proof_at h level key whole)
      ≡ behind_all (digests ++ d ∷ []) (proof_at h (level + 1) key (if b then right else left))
  down-on b digests d bit is =
      let e : suc level ≡ level + 1 = omega arith in
      ap (behind_all digests) (ap (proof_at h level key) fork ∙ chosen b bit
      ∙ ap (λ o. o >>= λ d. proof_at h (suc level) key (if b then right else left) >>= λ p. Ok (below d p)) is)
      ∙ one-more digests d (proof_at h (suc level) key (if b then right else left))
      ∙ ap (λ (n : ℕ). behind_all (digests ++ d ∷ []) (proof_at h n key (if b then right else left))) e
    where
      chosen : (b : Bool) → bit_of level key ≡ b → proof_at h level key (Fork left right)
          ≡ (shape_digest h (if b then left else right) >>= λ d.
          proof_at h (suc level) key (if b then right else left) >>= λ p. Ok (below d p))
      chosen true bit = rw bit refl
      chosen false bit = rw bit refl

-- ---- the tree's root accepts

module _ (h : MapHashes) (key : Key) where
  -- the hash of the end's node is that of the part there
  abbrev end_digest : Option Digest → EndSeen → Outcome Digest
  end_digest value end = digest_of h (end_node key value end)

  end_own : (entry : Entry) → end_digest (own_value key entry) (end_at key entry) ≡ h.leaf entry.key entry.value
  end_own entry = by_test (bytes_eq entry.key key) refl
    where
      by_test : (b : Bool) → bytes_eq entry.key key ≡ b
          → digest_of h (end_node key (if b then Some entry.value else None) (if b then AtOwn else AtOther entry))
          ≡ h.leaf entry.key entry.value
      by_test true e = ap (λ (k : Key). h.leaf k entry.value) (sym ((bytes_eq-Decides entry.key key).0 e))
      by_test false e = refl

  -- the proof of a fork is that of the key's side, below the digest of the other one
  below-parts : (level : ℕ) (other side : Shape) (proof : ProofSeen)
      → (shape_digest h other >>= λ d. proof_at h (suc level) key side >>= λ p. Ok (below d p)) ≡ Ok proof
      → (d : Digest) × (p : ProofSeen) × (shape_digest h other ≡ Ok d) × (proof_at h (suc level) key side ≡ Ok p)
      × (below d p ≡ proof)
  below-parts level other side proof is =
      let d = bind_ok (shape_digest h other) _ proof is in
      let p = bind_ok (proof_at h (suc level) key side) (λ p. Ok (below d.0 p)) proof d.2 in
      (d.0, p.0, d.1, p.1, done_injective {E = Error} (below d.0 p.0) proof p.2)

  climb-below : (level : ℕ) (shape : Shape) (proof : ProofSeen) (value : Option Digest)
      → proof_at h level key shape ≡ Ok proof
      → known_at level key shape ≡ Ok value
      → climb_key h key level proof.siblings (end_digest value proof.end) ≡ shape_digest h shape
  climb-below level Empty proof value is known =
      let p = done_injective {E = Error} (record { end = AtNothing; siblings = [] }) proof is in
      let v = done_injective {E = Error} None value known in
      ap (λ (p : ProofSeen). climb_key h key level p.siblings (end_digest value p.end)) (sym p)
      ∙ ap (λ (v : Option Digest). end_digest v AtNothing) (sym v)
  climb-below level (One entry) proof value is known =
      let p = done_injective {E = Error} (record { end = end_at key entry; siblings = [] }) proof is in
      let v = done_injective {E = Error} (own_value key entry) value known in
      ap (λ (p : ProofSeen). climb_key h key level p.siblings (end_digest value p.end)) (sym p)
      ∙ ap (λ (v : Option Digest). end_digest v (end_at key entry)) (sym v) ∙ end_own entry
  climb-below level (Hidden digest) proof value is known = absurd cc
  climb-below level (Fork left right) proof value is known =
      by_bit (climb-below (suc level) left) (climb-below (suc level) right)
      (bit_of level key) refl is known
    where
      -- what leads to the key's side leads on to the fork
      up : (b : Bool) (side : Shape) (d : Digest) (p : ProofSeen) → bit_of level key ≡ b → below d p ≡ proof
          → climb_key h key (suc level) p.siblings (end_digest value p.end) ≡ shape_digest h side
          → climb_key h key level proof.siblings (end_digest value proof.end)
          ≡ (shape_digest h side >>= λ own. digest_of h (pair_on b own d))
      up b side d p bit whole leads =
          ap (λ (p : ProofSeen). climb_key h key level p.siblings (end_digest value p.end)) (sym whole)
          ∙ ap (λ o. o >>= λ own. digest_of h (pair_on (bit_of level key) own d)) leads
          ∙ ap (λ (c : Bool). shape_digest h side >>= λ own. digest_of h (pair_on c own d)) bit

      by_bit : ((proof : ProofSeen) (value : Option Digest) → proof_at h (suc level) key left ≡ Ok proof
          → known_at (suc level) key left ≡ Ok value
          → climb_key h key (suc level) proof.siblings (end_digest value proof.end) ≡ shape_digest h left)
          → ((proof : ProofSeen) (value : Option Digest) → proof_at h (suc level) key right ≡ Ok proof
          → known_at (suc level) key right ≡ Ok value
          → climb_key h key (suc level) proof.siblings (end_digest value proof.end) ≡ shape_digest h right)
          → (b : Bool) → bit_of level key ≡ b
          → (if b then (shape_digest h left >>= λ d. proof_at h (suc level) key right >>= λ p. Ok (below d p))
          else (shape_digest h right >>= λ d. proof_at h (suc level) key left >>= λ p. Ok (below d p))) ≡ Ok proof
          → (if b then known_at (suc level) key right else known_at (suc level) key left) ≡ Ok value
          → climb_key h key level proof.siblings (end_digest value proof.end) ≡ shape_digest h (Fork left right)
      by_bit on_left on_right true bit is known =
          let parts = below-parts level left right proof is in
          up true right parts.0 parts.1 bit parts.4 (on_right parts.1 value parts.3 known)
          ∙ ap (λ o. o >>= λ a. shape_digest h right >>= λ b. h.pair a b) (sym parts.2)
      by_bit on_left on_right false bit is known =
          let parts = below-parts level right left proof is in
          up false left parts.0 parts.1 bit parts.4 (on_left parts.1 value parts.3 known)
          ∙ ap (λ o. shape_digest h left >>= λ a. o >>= λ b. h.pair a b) (sym parts.2)

  -- no proof is longer than a key
  long-below : (bits : List Bool) (level : ℕ) (shape : Shape) (proof : ProofSeen) → length bits ≡ level → level ≤ 256
      → StandsAt bits shape → proof_at h level key shape ≡ Ok proof → length proof.siblings + level ≤ 256
  long-below bits level Empty proof long within stands is =
      let p = ap (λ (p : ProofSeen). length p.siblings) (done_injective {E = Error}
      (record { end = AtNothing; siblings = [] }) proof is) in
      omega (arith, p, within)
  long-below bits level (One entry) proof long within stands is =
      let p = ap (λ (p : ProofSeen). length p.siblings)
      (done_injective {E = Error} (record { end = end_at key entry; siblings = [] }) proof is) in
      omega (arith, p, within)
  long-below bits level (Hidden digest) proof long within stands is = absurd cc
  long-below bits level (Fork left right) proof long within stands is =
      by_bit (λ p. long-below (false ∷ bits) (suc level) left p (omega (arith, long)) (omega
      (arith, long, stands.0)) stands.2)
      (λ p. long-below (true ∷ bits) (suc level) right p (omega (arith, long)) (omega (arith, long, stands.0)) stands.3)
      (bit_of level key) is
    where
      by_bit : ((p : ProofSeen) → proof_at h (suc level) key left ≡ Ok p → length p.siblings + suc level ≤ 256)
          → ((p : ProofSeen) → proof_at h (suc level) key right ≡ Ok p → length p.siblings + suc level ≤ 256)
          → (b : Bool)
          → (if b then (shape_digest h left >>= λ d. proof_at h (suc level) key right >>= λ p. Ok (below d p))
          else (shape_digest h right >>= λ d. proof_at h (suc level) key left >>= λ p. Ok (below d p))) ≡ Ok proof
          → length proof.siblings + level ≤ 256
      by_bit on_left on_right true is =
          let parts = below-parts level left right proof is in
          let whole = ap (λ (p : ProofSeen). length p.siblings) parts.4 in
          omega (arith, whole, on_right parts.1 parts.3)
      by_bit on_left on_right false is =
          let parts = below-parts level right left proof is in
          let whole = ap (λ (p : ProofSeen). length p.siblings) parts.4 in
          omega (arith, whole, on_left parts.1 parts.3)

  reaches : (root : Digest) (siblings : List Digest) (end : Node) (own : Outcome Digest) → digest_of h end ≡ own
      → climb_key h key 0 siblings own ≡ Ok root → length siblings ≤ 256 → way_verdict h root key siblings end ≡ Ok true
  reaches root siblings end own is up long =
      if_false (nat_lt key_bits (length siblings)) (Ok false) (digest_of h end >>= verdict_from h root key siblings)
      (not_long (length siblings) long)
      ∙ ap (λ o. o >>= verdict_from h root key siblings) is ∙ by_own own up
    where
      not_long : (n : ℕ) → n ≤ 256 → nat_lt 256 n ≡ false
      not_long n within = le-ltb 256 n within

      by_own : (own : Outcome Digest) → climb_key h key 0 siblings own ≡ Ok root
          → (own >>= verdict_from h root key siblings) ≡ Ok true
      by_own (Ok own) up = ap (λ o. o >>= λ top. Ok (bytes_eq top root)) up
          ∙ ap Ok ((bytes_eq-Decides root root).1 refl)
      by_own (Err error) up = let no = sym (climb-refused h key 0 siblings error) ∙ up in absurd cc

  -- The end fits what the tree has at the key.
  abbrev Fits : Option Digest → EndSeen → Type 0
  Fits None AtNothing = Unit {0}
  Fits (Some value) AtNothing = ⊥
  Fits None AtOwn = ⊥
  Fits (Some value) AtOwn = Unit {0}
  Fits None (AtOther entry) = bytes_eq entry.key key ≡ false
  Fits (Some value) (AtOther entry) = ⊥

  fits-own : (entry : Entry) → Fits (own_value key entry) (end_at key entry)
  fits-own entry = by_test (bytes_eq entry.key key) refl
    where
      by_test : (b : Bool) → bytes_eq entry.key key ≡ b
          → Fits (if b then Some entry.value else None) (if b then AtOwn else AtOther entry)
      by_test true e = tt
      by_test false e = e

  fits-end : (level : ℕ) (shape : Shape) (proof : ProofSeen) (value : Option Digest)
      → proof_at h level key shape ≡ Ok proof
      → known_at level key shape ≡ Ok value → Fits value proof.end
  fits-end level Empty proof value is known =
      subst (λ (p : ProofSeen). Fits value p.end) (done_injective {E = Error}
      (record { end = AtNothing; siblings = [] }) proof is)
      (subst (λ (v : Option Digest). Fits v AtNothing) (done_injective {E = Error} None value known) tt)
  fits-end level (One entry) proof value is known =
      subst (λ (p : ProofSeen). Fits value p.end)
      (done_injective {E = Error} (record { end = end_at key entry; siblings = [] }) proof is)
      (subst (λ (v : Option Digest). Fits v (end_at key entry)) (done_injective {E = Error}
      (own_value key entry) value known)
      (fits-own entry))
  fits-end level (Hidden digest) proof value is known = absurd cc
  fits-end level (Fork left right) proof value is known = by_bit (λ p. fits-end (suc level) left p value)
      (λ p. fits-end (suc level) right p value) (bit_of level key) is known
    where
      by_bit : ((p : ProofSeen) → proof_at h (suc level) key left ≡ Ok p → known_at (suc level) key left ≡ Ok value
          → Fits value p.end)
          → ((p : ProofSeen) → proof_at h (suc level) key right ≡ Ok p → known_at (suc level) key right ≡ Ok value
          → Fits value p.end)
          → (b : Bool)
          → (if b then (shape_digest h left >>= λ d. proof_at h (suc level) key right >>= λ p. Ok (below d p))
          else (shape_digest h right >>= λ d. proof_at h (suc level) key left >>= λ p. Ok (below d p))) ≡ Ok proof
          → (if b then known_at (suc level) key right else known_at
          (suc level) key left) ≡ Ok value → Fits value proof.end
      by_bit on_left on_right true is known =
          let parts = below-parts level left right proof is in
          subst (λ (p : ProofSeen). Fits value p.end) parts.4 (on_right parts.1 parts.3 known)
      by_bit on_left on_right false is known =
          let parts = below-parts level right left proof is in
          subst (λ (p : ProofSeen). Fits value p.end) parts.4 (on_left parts.1 parts.3 known)

  pub accepts : (shape : Shape) (proof : ProofSeen) → StandsAt [] shape → proof_at h 0 key shape ≡ Ok proof
      → IsKeyProofAccepted h key shape proof
  accepts shape proof stands is root value digest known =
      by_end proof.end value (fits-end 0 shape proof value is known) (climb-below 0 shape proof value is known ∙ digest)
    where
      short : length proof.siblings ≤ 256
      short = let long = long-below [] 0 shape proof refl (omega arith) stands is in omega (arith, long)

      by_end : (end : EndSeen) (value : Option Digest) → Fits value end
          → climb_key h key 0 proof.siblings (end_digest value end) ≡ Ok root
          → end_verdict h root key proof.siblings end value ≡ Ok true
      by_end AtNothing None fits up = reaches root proof.siblings Nothing (digest_of h Nothing) refl up short
      by_end AtNothing (Some value) fits up = absurd fits
      by_end AtOwn None fits up = absurd fits
      by_end AtOwn (Some value) fits up =
          reaches root proof.siblings (leaf_of key value) (digest_of h (leaf_of key value)) refl up short
      by_end (AtOther entry) None fits up =
          if_false (bytes_eq entry.key key) (Ok false) (way_verdict h root key proof.siblings
          (leaf_of entry.key entry.value)) fits
          ∙ reaches root proof.siblings (leaf_of entry.key entry.value) (digest_of h (Leaf entry)) refl up short
      by_end (AtOther entry) (Some value) fits up = absurd fits

-- with no digests above it a proof is as it is
pub behind_none : (o : Outcome ProofSeen) → behind_all [] o ≡ o
behind_none (Ok proof) = refl
behind_none (Err error) = refl
