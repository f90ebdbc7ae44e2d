-- Proofs of one key that are read from bytes.
use Rattle.std.proofs.Common.{zero, suc, ◌≡◌, ℕ, ◌+◌, ◌-◌, ◌*◌, ◌/◌, ◌%◌, ◌^◌, ◌<◌, ◌≤◌, ◌==◌, nat_lt, Bool, true, false, not, ◌&&◌, if◌then◌else◌, List, [], ◌∷◌, ◌++◌, length, take, drop, map, get_or, Ok, Err, arith, refl, ap, sym, ◌∙◌, subst, take-append-drop, length-append, append_assoc, append-nil, length-drop}
use Rattle.std.proofs.Math.Nat.{mod-eq_of_lt, pow-le-pow_right}
use Rattle.std.proofs.Math.Seq.{drop-cons, take-append_seam, drop-append_seam}
use Rattle.std.proofs.lemmas.Bool.{le-ltb, ltb-false}
use Rattle.std.proofs.lemmas.Bool.Decides.{Decides-eqb}
use Rattle.std.proofs.lemmas.List.{drop-map, get_or-drop}
use Rattle.std.proofs.lemmas.Slice.Eq.{bytes_eq-Decides}
use Rattle.std.specs.Str.{bytes_eq}
use Rattle.ark_base.specs.declared.error.Error.{Error}
use Rattle.ark_base.specs.Outcome.{Outcome, ◌>>=◌}
use Rattle.ark_base.specs.Reading.{IsBytes}
use Rattle.ark_base.specs.Laws.Steps.{bind_ok, done_injective, IsBytes-behind}
use Rattle.merkle_map.specs.Map.{Digest, bit_of, key_bits}
use Rattle.merkle_map.specs.Bytes.{string_read, truncated, invalid}
use Rattle.merkle_map.specs.KeyProof.{EndSeen, AtNothing, AtOwn, AtOther, ProofSeen}
use Rattle.merkle_map.specs.ProofBytes.{is_given, number_of, packed, mask_length, mask_of, digest_given, given_bytes, end_bytes, count_bytes, siblings_spelled, proof_spelled, other_read, end_read, count_in, count_read, front_read, given_read, found_behind, masked, siblings_read, proof_of_bytes, AreOf32, IsEndOf32, ReadsProofBack}
use Rattle.merkle_map.proofs.Masks.{bit-packed, length-packed}
use Rattle.merkle_map.proofs.Places.{if_true, if_false}
use Rattle.merkle_map.proofs.Reading.{drop-twice, string-found, string-read-back}

abbrev pub Given : Type 0
Given = List Digest × List ℕ

-- ---- one step of the writer

pub number-none : (count : ℕ) (bits : List Bool) → count ≡ 0 → number_of count bits ≡ 0
unfolding number_of
number-none zero bits e = refl
number-none (suc n) bits e = absurd (omega (arith, e))

pub number-nil : (f : Digest → Bool) (count : ℕ) (xs : List Digest) → length xs ≡ 0 → number_of count (map f xs) ≡ 0
unfolding number_of
number-nil f zero xs e = refl
number-nil f (suc n) [] e = refl
number-nil f (suc n) (x ∷ xs) e = absurd (omega (arith, e))

-- the first of some bits
number-step : (f : Digest → Bool) (count : ℕ) (xs : List Digest) (d : Digest) → 0 < count → 0 < length xs
    → number_of count (map f xs)
    ≡ (if f (get_or xs 0 d) then 2 ^ (count - 1) else 0) + number_of (count - 1) (map f (drop 1 xs))
unfolding number_of
number-step f zero xs d some there = absurd (omega (arith, some))
number-step f (suc n) [] d some there = absurd (omega (arith, there))
number-step f (suc n) (y ∷ ys) d some there =
    let e : n ≡ suc n - 1 = omega arith in
    ap (λ (m : ℕ). (if f y then 2 ^ m else 0) + number_of m (map f ys)) e

-- a bit of a byte as it is computed
shifted : (n : ℕ) → 0 < n → n ≤ 8 → 1 * 2 ^ (n - 1) % 256 ≡ 2 ^ (n - 1)
shifted n some few =
    let once : 1 * 2 ^ (n - 1) ≡ 2 ^ (n - 1) = omega arith in
    let low : 2 ^ (n - 1) ≤ 2 ^ 7 = pow-le-pow_right {n = 2} (omega arith) {i = n - 1} {j = 7} (omega (arith, few)) in
    ap (λ (m : ℕ). m % 256) once ∙ mod-eq_of_lt (omega (arith, low))

pub fits-sum : (n below : ℕ) → 0 < n → n ≤ 8 → below < 2 ^ (n - 1) → 1 * 2 ^ (n - 1) % 256 + below < 256
fits-sum n below some few small =
    let low : 2 ^ (n - 1) ≤ 2 ^ 7 = pow-le-pow_right {n = 2} (omega arith) {i = n - 1} {j = 7} (omega (arith, few)) in
    let same = shifted n some few in
    omega (arith, low, same, small)

module _ (f : Digest → Bool) (count : ℕ) (xs : List Digest) (d : Digest) (some : 0 < count) (there : 0 < length xs)
    (below : ℕ) (is : below ≡ number_of (count - 1) (map f (drop 1 xs))) where
  pub number-given : count ≤ 8 → f (get_or xs 0 d) ≡ true
      → 1 * 2 ^ (count - 1) % 256 + below ≡ number_of count (map f xs)
  number-given few bit =
      ap (λ (m : ℕ). m + below) (shifted count some few) ∙ ap (λ (m : ℕ). 2 ^ (count - 1) + m) is
      ∙ ap (λ (m : ℕ). m + number_of (count - 1) (map f (drop 1 xs)))
      (sym (if_true (f (get_or xs 0 d)) (2 ^ (count - 1)) 0 bit))
      ∙ sym (number-step f count xs d some there)

  pub number-other : f (get_or xs 0 d) ≡ false → below ≡ number_of count (map f xs)
  number-other bit =
      let none : number_of (count - 1) (map f (drop 1 xs)) ≡ 0 + number_of (count - 1) (map f (drop 1 xs)) =
      omega arith in
      is ∙ none ∙ ap (λ (m : ℕ). m + number_of (count - 1) (map f (drop 1 xs)))
      (sym (if_false (f (get_or xs 0 d)) (2 ^ (count - 1)) 0 bit))
      ∙ sym (number-step f count xs d some there)

pub packed-none : (count : ℕ) (bits : List Bool) → count ≡ 0 → packed count bits ≡ []
unfolding packed
packed-none zero bits e = refl
packed-none (suc n) bits e = absurd (omega (arith, e))

pub packed-step : (f : Digest → Bool) (count : ℕ) (xs : List Digest) → 0 < count
    → packed count (map f xs) ≡ number_of 8 (map f xs) ∷ packed (count - 1) (map f (drop 8 xs))
unfolding packed
packed-step f zero xs some = absurd (omega (arith, some))
packed-step f (suc n) xs some =
    let e : n ≡ suc n - 1 = omega arith in
    ap (λ (bits : List Bool). number_of 8 (map f xs) ∷ packed n bits) (drop-map f 8 xs)
    ∙ ap (λ (m : ℕ). number_of 8 (map f xs) ∷ packed m (map f (drop 8 xs))) e

-- ---- one step of the reader

pub other-ended : (bytes rest : List ℕ) → 0 < length bytes → get_or bytes 0 0 ≡ 2 → rest ≡ drop 1 bytes
    → end_read bytes ≡ other_read rest
other-ended bytes rest there is behind =
    ap end_read (drop-cons bytes 0 0 there ∙ ap (λ (t : ℕ). t ∷ drop 1 bytes) is) ∙ ap other_read (sym behind)

module _ (nothing : Digest) (mask : List ℕ) where
  behind-more : (before : List Digest) (d : Digest) (o : Outcome Given)
      → found_behind before (o >>= λ more. Ok (d ∷ more.0, more.1)) ≡ found_behind (before ++ d ∷ []) o
  behind-more before d (Ok more) = ap (λ (l : List Digest). Ok (l, more.1)) (sym (append_assoc before (d ∷ []) more.0))
  behind-more before d (Err error) = refl

  module _ (count level : ℕ) (some : 0 < count) (bytes : List ℕ) (before : List Digest) where
    opened : given_read nothing count level mask bytes ≡ given_read nothing (suc (count - 1)) level mask bytes
    opened = let e : count ≡ suc (count - 1) = omega (arith, some) in
        ap (λ (n : ℕ). given_read nothing n level mask bytes) e

    given-set : (digest rest : List ℕ) → bit_of level mask ≡ true → string_read bytes ≡ Ok (digest, rest)
        → found_behind before (given_read nothing count level mask bytes)
        ≡ found_behind (before ++ digest ∷ []) (given_read nothing (count - 1) (level + 1) mask rest)
    given-set digest rest bit is =
        let e : suc level ≡ level + 1 = omega arith in
        ap (found_behind before) (opened
        ∙ if_true (bit_of level mask) (string_read bytes >>= λ digest. given_read nothing (count - 1) (suc level) mask
        digest.1 >>= λ more. Ok (digest.0 ∷ more.0, more.1))
        (given_read nothing (count - 1) (suc level) mask bytes >>= λ more. Ok (nothing ∷ more.0, more.1)) bit
        ∙ ap (λ o. o >>= λ digest. given_read nothing (count - 1) (suc level) mask digest.1 >>= λ more.
        Ok (digest.0 ∷ more.0, more.1)) is
        ∙ ap (λ (n : ℕ). given_read nothing (count - 1) n mask rest >>= λ more. Ok (digest ∷ more.0, more.1)) e)
        ∙ behind-more before digest (given_read nothing (count - 1) (level + 1) mask rest)

    -- the same, of what a call pushed and went on with
    pub given-next : (digest : Digest) (next : List ℕ) (after : List Digest) → bit_of level mask ≡ true
        → string_read bytes ≡ Ok (digest, drop 32 bytes) → after ≡ before ++ digest ∷ [] → next ≡ drop 32 bytes
        → found_behind before (given_read nothing count level mask bytes)
        ≡ found_behind after (given_read nothing (count - 1) (level + 1) mask next)
    given-next digest next after bit is pushed dropped =
        given-set digest (drop 32 bytes) bit is
        ∙ ap (λ l. found_behind l (given_read nothing (count - 1) (level + 1) mask (drop 32 bytes))) (sym pushed)
        ∙ ap (λ l. found_behind after (given_read nothing (count - 1) (level + 1) mask l)) (sym dropped)

    pub given-set-error : (error : Error) → bit_of level mask ≡ true → string_read bytes ≡ Err error
        → found_behind before (given_read nothing count level mask bytes) ≡ Err error
    given-set-error error bit is =
        ap (found_behind before) (opened
        ∙ if_true (bit_of level mask) (string_read bytes >>= λ digest. given_read nothing (count - 1) (suc level) mask
        digest.1 >>= λ more. Ok (digest.0 ∷ more.0, more.1))
        (given_read nothing (count - 1) (suc level) mask bytes >>= λ more. Ok (nothing ∷ more.0, more.1)) bit
        ∙ ap (λ o. o >>= λ digest. given_read nothing (count - 1) (suc level) mask digest.1 >>= λ more.
        Ok (digest.0 ∷ more.0, more.1)) is)

    pub given-clear : bit_of level mask ≡ false
        → found_behind before (given_read nothing count level mask bytes)
        ≡ found_behind (before ++ nothing ∷ []) (given_read nothing (count - 1) (level + 1) mask bytes)
    given-clear bit =
        let e : suc level ≡ level + 1 = omega arith in
        ap (found_behind before) (opened
        ∙ if_false (bit_of level mask) (string_read bytes >>= λ digest. given_read nothing (count - 1) (suc level) mask
        digest.1 >>= λ more. Ok (digest.0 ∷ more.0, more.1))
        (given_read nothing (count - 1) (suc level) mask bytes >>= λ more. Ok (nothing ∷ more.0, more.1)) bit
        ∙ ap (λ (n : ℕ). given_read nothing (count - 1) n mask bytes >>= λ more. Ok (nothing ∷ more.0, more.1)) e)
        ∙ behind-more before nothing (given_read nothing (count - 1) (level + 1) mask bytes)

  pub given-none : (count level : ℕ) (bytes : List ℕ) (before : List Digest) → count ≡ 0
      → found_behind before (given_read nothing count level mask bytes) ≡ Ok (before, bytes)
  given-none zero level bytes before e = ap (λ (l : List Digest). Ok (l, bytes)) (append-nil before)
  given-none (suc n) level bytes before e = absurd (omega (arith, e))

-- ---- bits of digests

module _ (nothing : Digest) where
  -- The bits of a mask, from a level on, are those of digests.
  abbrev AreBits : List ℕ → ℕ → List Digest → Type 0
  AreBits mask level [] = Unit {0}
  AreBits mask level (d ∷ ds) = (bit_of level mask ≡ is_given nothing d) × AreBits mask (suc level) ds

  mask-bit : (all : List Digest) (i : ℕ) → i < length all
      → bit_of i (mask_of nothing all) ≡ get_or (map (is_given nothing) all) i false
  mask-bit all i inside =
      let enough : i < 8 * mask_length (length all) = omega (arith, inside) in
      bit-packed (mask_length (length all)) i (map (is_given nothing) all) enough

  mask-bits : (all : List Digest) (level : ℕ) (ds : List Digest) → drop level all ≡ ds
      → AreBits (mask_of nothing all) level ds
  mask-bits all level [] e = tt
  mask-bits all level (d ∷ ds) e =
      let f = is_given nothing in
      let long : length (drop level all) ≡ suc (length ds) = ap length e in
      let sum = length-drop level all in
      let here : get_or (map f all) level false ≡ f d =
      (let same : level ≡ level + 0 = omega arith in ap (λ (n : ℕ). get_or (map f all) n false) same)
      ∙ sym (get_or-drop level (map f all) 0 false) ∙ ap (λ (l : List Bool). get_or l 0 false) (drop-map f level all)
      ∙ ap (λ (l : List Digest). get_or (map f l) 0 false) e in
      let next : level + 1 ≡ suc level = omega arith in (
        mask-bit all level (omega (arith, long, sum)) ∙ here,
        mask-bits all (suc level) ds (ap (λ (n : ℕ). drop n all) (sym next) ∙ sym (drop-twice level 1 all)
            ∙ ap (drop 1) e),
      )

  not-false : (b : Bool) → not b ≡ false → b ≡ true
  not-false true e = refl
  not-false false e = absurd cc

  -- what is spelled is read
  given-back : (ds : List Digest) (level : ℕ) (mask rest : List ℕ) → AreBits mask level ds
      → AreOf32 ds
      → given_read nothing (length ds) level mask (given_bytes nothing ds ++ rest) ≡ Ok (ds, rest)
  given-back [] level mask rest bits sized = refl
  given-back (d ∷ ds) level mask rest bits sized =
      by_bit (is_given nothing d) refl (given-back ds (suc level) mask rest bits.1 sized.1)
    where
      set : Outcome Given
      set = string_read (given_bytes nothing (d ∷ ds) ++ rest) >>= λ digest. given_read nothing (length ds)
          (suc level) mask digest.1 >>= λ more. Ok (digest.0 ∷ more.0, more.1)

      clear : Outcome Given
      clear = given_read nothing (length ds) (suc level) mask (given_bytes nothing (d ∷ ds) ++ rest) >>= λ more.
          Ok (nothing ∷ more.0, more.1)

      by_bit : (b : Bool) → is_given nothing d ≡ b
          → given_read nothing (length ds) (suc level) mask (given_bytes nothing ds ++ rest) ≡ Ok (ds, rest)
          → given_read nothing (length (d ∷ ds)) level mask (given_bytes nothing (d ∷ ds) ++ rest) ≡ Ok (d ∷ ds, rest)
      by_bit true is below =
          let own : digest_given nothing d ≡ d = if_true (is_given nothing d) d [] is in
          let front : given_bytes nothing (d ∷ ds) ++ rest ≡ d ++ (given_bytes nothing ds ++ rest) =
          append_assoc (digest_given nothing d) (given_bytes nothing ds) rest
          ∙ ap (λ (l : List ℕ). l ++ (given_bytes nothing ds ++ rest)) own in
          if_true (bit_of level mask) set clear (bits.0 ∙ is)
          ∙ ap (λ (l : List ℕ). string_read l >>= λ digest. given_read nothing (length ds) (suc level) mask digest.1
          >>= λ more. Ok (digest.0 ∷ more.0, more.1)) front
          ∙ ap (λ o. o >>= λ digest. given_read nothing (length ds) (suc level) mask digest.1 >>= λ more.
          Ok (digest.0 ∷ more.0, more.1)) (string-read-back d (given_bytes nothing ds ++ rest) sized.0)
          ∙ ap (λ o. o >>= λ more. Ok (d ∷ more.0, more.1)) below
      by_bit false is below =
          let none : digest_given nothing d ≡ [] = if_false (is_given nothing d) d [] is in
          let same : d ≡ nothing = (bytes_eq-Decides d nothing).0 (not-false (bytes_eq d nothing) is) in
          let front : given_bytes nothing (d ∷ ds) ++ rest ≡ given_bytes nothing ds ++ rest =
          ap (λ (l : List ℕ). (l ++ given_bytes nothing ds) ++ rest) none in
          if_false (bit_of level mask) set clear (bits.0 ∙ is)
          ∙ ap (λ (l : List ℕ). given_read nothing (length ds) (suc level) mask l >>= λ more.
          Ok (nothing ∷ more.0, more.1)) front
          ∙ ap (λ o. o >>= λ more. Ok (nothing ∷ more.0, more.1)) below
          ∙ ap (λ (x : Digest). Ok (x ∷ ds, rest)) (sym same)

  pub given-length : (count level : ℕ) (mask bytes : List ℕ) (found : Given)
      → given_read nothing count level mask bytes ≡ Ok found → length found.0 ≡ count
  given-length zero level mask bytes found e =
      ap (λ (f : Given). length f.0) (sym (done_injective {E = Error} ([], bytes) found e))
  given-length (suc count) level mask bytes found e =
      by_bit (bit_of level mask) (λ rest. given-length count (suc level) mask rest) e
    where
      by_bit : (b : Bool) → ((rest : List ℕ) (below : Given)
          → given_read nothing count (suc level) mask rest ≡ Ok below → length below.0 ≡ count) → (if b
          then (string_read bytes >>= λ digest. given_read nothing count (suc level) mask digest.1 >>= λ more.
          Ok (digest.0 ∷ more.0, more.1))
          else (given_read nothing count (suc level) mask bytes >>= λ more. Ok (nothing ∷ more.0, more.1))) ≡ Ok found
          → length found.0 ≡ suc count
      by_bit true below e =
          let d = bind_ok (string_read bytes) _ found e in
          let more = bind_ok (given_read nothing count (suc level) mask d.0.1) (λ more. Ok
          (d.0.0 ∷ more.0, more.1)) found d.2 in
          ap (λ (f : Given). length f.0)
          (sym (done_injective {E = Error} (d.0.0 ∷ more.0.0, more.0.1) found more.2))
          ∙ ap suc (below d.0.1 more.0 more.1)
      by_bit false below e =
          let more = bind_ok (given_read nothing count (suc level) mask bytes) (λ more. Ok
          (nothing ∷ more.0, more.1)) found e in
          ap (λ (f : Given). length f.0)
          (sym (done_injective {E = Error} (nothing ∷ more.0.0, more.0.1) found more.2))
          ∙ ap suc (below bytes more.0 more.1)

  -- what is read is spelled so
  given-only : (count level : ℕ) (mask bytes : List ℕ) (found : Given)
      → given_read nothing count level mask bytes ≡ Ok found → AreBits mask level found.0
      → bytes ≡ given_bytes nothing found.0 ++ found.1
  given-only zero level mask bytes found e bits =
      ap (λ (f : Given). given_bytes nothing f.0 ++ f.1) (done_injective {E = Error} ([], bytes) found e)
  given-only (suc count) level mask bytes found e bits =
      by_bit (bit_of level mask) refl (λ rest. given-only count (suc level) mask rest) e
    where
      by_bit : (b : Bool) → bit_of level mask ≡ b → ((rest : List ℕ) (below : Given)
          → given_read nothing count (suc level) mask rest ≡ Ok below → AreBits mask (suc level) below.0
          → rest ≡ given_bytes nothing below.0 ++ below.1) → (if b
          then (string_read bytes >>= λ digest. given_read nothing count (suc level) mask digest.1 >>= λ more.
          Ok (digest.0 ∷ more.0, more.1))
          else (given_read nothing count (suc level) mask bytes >>= λ more. Ok (nothing ∷ more.0, more.1))) ≡ Ok found
          → bytes ≡ given_bytes nothing found.0 ++ found.1
      by_bit true bit below e =
          let d = bind_ok (string_read bytes) _ found e in
          let more = bind_ok (given_read nothing count (suc level) mask d.0.1) (λ more. Ok
          (d.0.0 ∷ more.0, more.1)) found d.2 in
          let is = done_injective {E = Error} (d.0.0 ∷ more.0.0, more.0.1) found more.2 in
          let all = subst (λ (f : Given). AreBits mask level f.0) (sym is) bits in
          let own : digest_given nothing d.0.0 ≡ d.0.0 = if_true (is_given nothing d.0.0) d.0.0 [] (sym all.0 ∙ bit) in
          string-found bytes d.0 d.1
          ∙ ap (λ (l : List ℕ). d.0.0 ++ l) (below d.0.1 more.0 more.1 all.1)
          ∙ ap (λ (l : List ℕ). l ++ (given_bytes nothing more.0.0 ++ more.0.1)) (sym own)
          ∙ sym (append_assoc (digest_given nothing d.0.0) (given_bytes nothing more.0.0) more.0.1)
          ∙ ap (λ (f : Given). given_bytes nothing f.0 ++ f.1) is
      by_bit false bit below e =
          let more = bind_ok (given_read nothing count (suc level) mask bytes) (λ more. Ok
          (nothing ∷ more.0, more.1)) found e in
          let is = done_injective {E = Error} (nothing ∷ more.0.0, more.0.1) found more.2 in
          let all = subst (λ (f : Given). AreBits mask level f.0) (sym is) bits in
          let none : digest_given nothing nothing ≡ [] =
          if_false (is_given nothing nothing) nothing [] (sym all.0 ∙ bit) in
          below bytes more.0 more.1 all.1
          ∙ ap (λ (l : List ℕ). (l ++ given_bytes nothing more.0.0) ++ more.0.1) (sym none)
          ∙ ap (λ (f : Given). given_bytes nothing f.0 ++ f.1) is

  -- ---- all siblings

  and_both : (a b : Bool) → (a && b) ≡ true → (a ≡ true) × (b ≡ true)
  and_both true true e = (refl, refl)
  and_both true false e = absurd cc
  and_both false b e = absurd cc

  empty : (xs : List ℕ) → (length xs == 0) ≡ true → xs ≡ []
  empty [] e = refl
  empty (x ∷ xs) e = let none : length (x ∷ xs) ≡ 0 = (Decides-eqb (length (x ∷ xs)) 0).0 e in
      absurd (omega (arith, none))

  two_bytes : (bytes : List ℕ) → IsBytes bytes → 2 ≤ length bytes → bytes ≡ count_bytes (count_in bytes) ++ drop 2 bytes
  two_bytes [] small long = absurd (omega (arith, long))
  two_bytes (a ∷ []) small long = absurd (omega (arith, long))
  two_bytes (a ∷ b ∷ rest) small long =
      let first : a < 256 = small 0 in
      let low : (a + 256 * b) % 256 ≡ a = omega (arith, first) in
      let high : (a + 256 * b) / 256 ≡ b = omega (arith, first) in
      ap (λ (n : ℕ). n ∷ b ∷ rest) (sym low) ∙ ap (λ (n : ℕ). ((a + 256 * b) % 256) ∷ n ∷ rest) (sym high)

  count-found : (bytes : List ℕ) (count : ℕ) → count_read bytes ≡ Ok count
      → (2 ≤ length bytes) × (count_in bytes ≡ count)
  count-found bytes count e = by_tests (nat_lt (length bytes) 2) (nat_lt key_bits (count_in bytes)) refl e
    where
      by_tests : (a b : Bool) → nat_lt (length bytes) 2 ≡ a → (if a then Err truncated else
          if b then Err invalid else Ok (count_in bytes)) ≡ Ok count → (2 ≤ length bytes) × (count_in bytes ≡ count)
      by_tests true b is e = absurd cc
      by_tests false true is e = absurd cc
      by_tests false false is e =
          (ltb-false (length bytes) 2 is, done_injective {E = Error} (count_in bytes) count e)

  front-found : (count : ℕ) (bytes front : List ℕ) → front_read count bytes ≡ Ok front
      → bytes ≡ front ++ drop count bytes
  front-found count bytes front e = by_test (nat_lt (length bytes) count) e
    where
      by_test : (b : Bool) → (if b then Err truncated else Ok (take count bytes)) ≡ Ok front
          → bytes ≡ front ++ drop count bytes
      by_test true e = absurd cc
      by_test false e = sym (take-append-drop count bytes)
          ∙ ap (λ (l : List ℕ). l ++ drop count bytes) (done_injective {E = Error} (take count bytes) front e)

  masked-found : (mask : List ℕ) (found : Given) (siblings : List Digest) → masked nothing mask found ≡ Ok siblings
      → (found.0 ≡ siblings) × (mask_of nothing found.0 ≡ mask) × (found.1 ≡ [])
  masked-found mask found siblings e =
      by_test (bytes_eq (mask_of nothing found.0) mask && (length found.1 == 0)) refl e
    where
      by_test : (b : Bool) → (bytes_eq (mask_of nothing found.0) mask && (length found.1 == 0)) ≡ b
          → (if b then Ok found.0 else Err invalid) ≡ Ok siblings
          → (found.0 ≡ siblings) × (mask_of nothing found.0 ≡ mask) × (found.1 ≡ [])
      by_test false is e = absurd cc
      by_test true is e =
          let both = and_both (bytes_eq (mask_of nothing found.0) mask) (length found.1 == 0) is in (
            done_injective {E = Error} found.0 siblings e,
            (bytes_eq-Decides (mask_of nothing found.0) mask).0 both.0,
            empty found.1 both.1,
          )

  pub siblings-only : (bytes : List ℕ) (siblings : List Digest) → IsBytes bytes
      → siblings_read nothing bytes ≡ Ok siblings → bytes ≡ siblings_spelled nothing siblings
  siblings-only bytes siblings small e =
      let c = bind_ok (count_read bytes) _ siblings e in
      let m = bind_ok (front_read (mask_length c.0) (drop 2 bytes)) _ siblings c.2 in
      let g = bind_ok (given_read nothing c.0 0 m.0 (drop (mask_length c.0) (drop 2 bytes))) (masked nothing m.0)
      siblings m.2 in
      let count = count-found bytes c.0 c.1 in
      let end = masked-found m.0 g.0 siblings g.2 in
      let long = given-length c.0 0 m.0 (drop (mask_length c.0) (drop 2 bytes)) g.0 g.1 in
      let bits = subst (λ (mask : List ℕ). AreBits mask 0 g.0.0) end.1 (mask-bits g.0.0 0 g.0.0 refl) in
      two_bytes bytes small count.0
      ∙ ap (λ (n : ℕ). count_bytes n ++ drop 2 bytes) (count.1 ∙ sym long)
      ∙ ap (λ (l : List ℕ). count_bytes (length g.0.0) ++ l) (front-found (mask_length c.0) (drop 2 bytes) m.0 m.1
      ∙ ap (λ (l : List ℕ). m.0 ++ l) (given-only c.0 0 m.0 (drop (mask_length c.0) (drop 2 bytes)) g.0 g.1 bits
      ∙ ap (λ (l : List ℕ). given_bytes nothing g.0.0 ++ l) end.2 ∙ append-nil (given_bytes nothing g.0.0))
      ∙ ap (λ (l : List ℕ). l ++ given_bytes nothing g.0.0) (sym end.1))
      ∙ ap (siblings_spelled nothing) end.0

  same-bytes : (xs : List ℕ) → bytes_eq xs xs ≡ true
  same-bytes xs = (bytes_eq-Decides xs xs).1 refl

  siblings-back : (siblings : List Digest) → AreOf32 siblings → length siblings ≤ key_bits
      → siblings_read nothing (siblings_spelled nothing siblings) ≡ Ok siblings
  siblings-back siblings sized few =
      let n = length siblings in
      let mask = mask_of nothing siblings in
      let given = given_bytes nothing siblings in
      let whole = mask ++ given in
      let long : length mask ≡ mask_length n = length-packed (mask_length n) (map (is_given nothing) siblings) in
      let number : n % 256 + 256 * (n / 256) ≡ n = omega arith in
      let sum = length-append mask given in
      let two = length-append (count_bytes n) whole in
      let right_count : count_read (count_bytes n ++ whole) ≡ Ok n =
      if_false (nat_lt (length (count_bytes n ++ whole)) 2) (Err truncated)
      (if nat_lt key_bits (count_in (count_bytes n ++ whole)) then Err invalid else Ok
      (count_in (count_bytes n ++ whole)))
      (le-ltb (length (count_bytes n ++ whole)) 2 (omega (arith, two)))
      ∙ if_false (nat_lt key_bits (count_in (count_bytes n ++ whole))) (Err invalid) (Ok
      (count_in (count_bytes n ++ whole)))
      (ap (nat_lt key_bits) number ∙ le-ltb key_bits n few) ∙ ap (λ (k : ℕ). Ok k) number in
      let right_mask : front_read (mask_length n) whole ≡ Ok mask =
      if_false (nat_lt (length whole) (mask_length n)) (Err truncated) (Ok (take (mask_length n) whole))
      (le-ltb (length whole) (mask_length n) (omega (arith, sum, long)))
      ∙ ap (λ (k : ℕ). Ok (take k whole)) (sym long) ∙ ap (λ (l : List ℕ). Ok l) (take-append_seam mask given) in
      let behind : drop (mask_length n) whole ≡ given =
      ap (λ (k : ℕ). drop k whole) (sym long) ∙ drop-append_seam mask given in
      ap (λ o. o >>= λ count. front_read (mask_length count) whole >>= λ mask.
      given_read nothing count 0 mask (drop (mask_length count) whole) >>= masked nothing mask) right_count
      ∙ ap (λ o. o >>= λ mask. given_read nothing n 0 mask (drop (mask_length n) whole) >>= masked nothing mask)
      right_mask
      ∙ ap (λ (l : List ℕ). given_read nothing n 0 mask l >>= masked nothing mask) (behind ∙ sym (append-nil given))
      ∙ ap (λ o. o >>= masked nothing mask)
      (given-back siblings 0 mask [] (mask-bits siblings 0 siblings refl) sized)
      ∙ if_true (bytes_eq mask mask && true) (Ok siblings) (Err invalid)
      (ap (λ (b : Bool). b && true) (same-bytes mask))

  -- ---- whole proofs

  abbrev Ended : Type 0
  Ended = EndSeen × List ℕ

  end-only : (bytes : List ℕ) (found : Ended) → end_read bytes ≡ Ok found → bytes ≡ end_bytes found.0 ++ found.1
  end-only [] found e = absurd cc
  end-only (tag ∷ rest) found e = first (tag == 0) (tag == 1) (tag == 2) refl refl refl e
    where
      named : (n : ℕ) → (tag == n) ≡ true → n ∷ rest ≡ end_bytes found.0 ++ found.1
          → tag ∷ rest ≡ end_bytes found.0 ++ found.1
      named n is e = ap (λ (t : ℕ). t ∷ rest) ((Decides-eqb tag n).0 is) ∙ e

      first : (a b c : Bool) → (tag == 0) ≡ a → (tag == 1) ≡ b → (tag == 2) ≡ c
          → (if a then Ok (AtNothing, rest) else if b then Ok (AtOwn, rest) else
          if c then other_read rest else Err invalid) ≡ Ok found → tag ∷ rest ≡ end_bytes found.0 ++ found.1
      first true b c p q r e = named 0 p
          (ap (λ (f : Ended). end_bytes f.0 ++ f.1) (done_injective {E = Error} (AtNothing, rest) found e))
      first false true c p q r e = named 1 q
          (ap (λ (f : Ended). end_bytes f.0 ++ f.1) (done_injective {E = Error} (AtOwn, rest) found e))
      first false false true p q r e =
          let k = bind_ok (string_read rest) _ found e in
          let v = bind_ok (string_read k.0.1) (λ value. Ok (
            AtOther (record { key = k.0.0; value = value.0 }),
            value.1,
          )) found k.2 in
          named 2 r (ap (λ (l : List ℕ). 2 ∷ l) (string-found rest k.0 k.1
          ∙ ap (λ (l : List ℕ). k.0.0 ++ l) (string-found k.0.1 v.0 v.1) ∙ sym (append_assoc k.0.0 v.0.0 v.0.1))
          ∙ ap (λ (f : Ended). end_bytes f.0 ++ f.1)
          (done_injective {E = Error} (AtOther (record { key = k.0.0; value = v.0.0 }), v.0.1) found v.2))
      first false false false p q r e = absurd cc

  pub proof-only : (bytes : List ℕ) (proof : ProofSeen) → IsBytes bytes → proof_of_bytes nothing bytes ≡ Ok proof
      → bytes ≡ proof_spelled nothing proof
  proof-only bytes proof small e =
      let end = bind_ok (end_read bytes) _ proof e in
      let s = bind_ok (siblings_read nothing end.0.1) (λ siblings. Ok
      (record { end = end.0.0; siblings = siblings })) proof end.2 in
      let front = end-only bytes end.0 end.1 in
      let behind : IsBytes end.0.1 = IsBytes-behind (end_bytes end.0.0) end.0.1 (subst IsBytes front small) in
      front ∙ ap (λ (l : List ℕ). end_bytes end.0.0 ++ l) (siblings-only end.0.1 s.0 behind s.1)
      ∙ ap (proof_spelled nothing)
      (done_injective {E = Error} (record { end = end.0.0; siblings = s.0 }) proof s.2)

  end-back : (end : EndSeen) (rest : List ℕ) → IsEndOf32 end → end_read (end_bytes end ++ rest) ≡ Ok (end, rest)
  end-back AtNothing rest sized = refl
  end-back AtOwn rest sized = refl
  end-back (AtOther entry) rest sized =
      ap other_read (append_assoc entry.key entry.value rest)
      ∙ ap (λ o. o >>= λ key. string_read key.1 >>= λ value. Ok (
        AtOther (record { key = key.0; value = value.0 }),
        value.1,
      )) (string-read-back entry.key (entry.value ++ rest) sized.0)
      ∙ ap (λ o. o >>= λ value. Ok (AtOther (record { key = entry.key; value = value.0 }), value.1))
      (string-read-back entry.value rest sized.1)

  pub reads-proof-back : (bytes : List ℕ) → ReadsProofBack nothing bytes
  reads-proof-back bytes proof sized is =
      ap (proof_of_bytes nothing) is
      ∙ ap (λ o. o >>= λ end. siblings_read nothing end.1 >>= λ siblings. Ok
      (record { end = end.0; siblings = siblings }))
      (end-back proof.end (siblings_spelled nothing proof.siblings) sized.end)
      ∙ ap (λ o. o >>= λ siblings. Ok (record { end = proof.end; siblings = siblings }))
      (siblings-back proof.siblings sized.siblings sized.count)

-- lists of 32 numbers, each by its index
pub told-of32 : (xs : List Digest) → ((i : ℕ) → i < length xs → length (get_or xs i []) ≡ 32) → AreOf32 xs
told-of32 [] told = tt
told-of32 (x ∷ xs) told =
    (told 0 (omega arith), told-of32 xs (λ i inside. told (suc i) (omega (arith, inside))))
