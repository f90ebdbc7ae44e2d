-- What is given of a kept log.
use Rattle.std.proofs.Common.{suc, ◌≡◌, ℕ, ◌+◌, ◌^◌, ◌<◌, ◌≤◌, List, [], ◌∷◌, length, map, take, drop, nat_lt, Bool, true, false, if◌then◌else◌, Option, Some, None, Result, Ok, ℤ, arith, refl, ap, sym, ◌∙◌, inl, inr}
use Rattle.std.proofs.lemmas.Bool.{cases_lt, le-ltb, lt-ltb}
use Rattle.std.proofs.lemmas.List.{length-map}
use Rattle.std.specs.List.{flat_map}
use Rattle.std.specs.Option.{option_map}
use Rattle.ark_base.specs.Digits.{itself}
use Rattle.ark_base.specs.Outcome.{Outcome}
use Rattle.ark_base.specs.Laws.Steps.{done_injective}
use Rattle.ark_paths.specs.Pair.{Digest}
use Rattle.ark_trees.specs.Rfc6962.{entry_hash}
use Rattle.merkle_log.specs.Kept.{has_front}
use Rattle.merkle_log.specs.Stored.{stored_count}
use Rattle.merkle_log.specs.Received.{consistency_length, inclusion_length}
use Rattle.merkle_log.proofs.Positions.{count-rises}
use Rattle.merkle_log.proofs.Rooms.{consistency-most, inclusion-most}
use Rattle.paxidore_calls.specs.Answer.{Hands, leaves_in, results_of}
use Rattle.paxidore_calls.specs.Cut.{parts_by}
use Rattle.paxidore_calls.specs.KeptLog.{appended, bytes_of_digests, if_inside, if_older, more_count, takes}
use Rattle.paxidore_calls.specs.declared.refused.Refused.{Refused}

-- ---- proofs

front-fits : (size count : ℕ) → has_front size count ≡ true → size < 2 ^ 63
front-fits size count stands = elim (cases_lt size (2 ^ 63)) [
  | inl less ↦ less
  | inr past ↦
      let none : has_front size count ≡ false = rw (le-ltb size (2 ^ 63) past) refl in
      absurd cc
]

-- A proof has at most 64 digests.
pub inclusion-fits : (size index kept count : ℕ) → has_front size kept ≡ true → index < size
    → count ≡ inclusion_length size index → count ≤ 64
inclusion-fits size index kept count stands inside is =
    omega (arith, is, inclusion-most size index inside (front-fits size kept stands))

pub consistency-fits : (old_size size kept count : ℕ) → has_front size kept ≡ true → 0 < old_size → old_size ≤ size
    → count ≡ consistency_length old_size size → count ≤ 64
consistency-fits old_size size kept count stands some older is =
    omega (arith, is, consistency-most old_size size some older (front-fits size kept stands))

-- the bytes of digests that are given
pub bytes-given : (given : Outcome (List Digest)) (digests : List Digest) → given ≡ Ok digests
    → bytes_of_digests given ≡ Ok (flat_map itself digests)
bytes-given given digests is = ap bytes_of_digests is

-- what is handed over, told in another way
pub hands-given : {given outcome : Result (List ℕ) Refused} {before after : List ℕ} {count_before count_after : ℕ}
    {code told : ℤ} → outcome ≡ given → told ≡ code → Hands given before after count_before count_after code
    → Hands outcome before after count_before count_after told
hands-given is told_is hands = rw (is, told_is) hands

pub all-inside : (size index : ℕ) (kept : List Digest) (bytes : Result (List ℕ) Refused)
    → has_front size (length kept) ≡ true → index < size → if_inside size index kept bytes ≡ bytes
all-inside size index kept bytes stands below = rw (stands, lt-ltb index size below) refl

pub all-older : (old_size size : ℕ) (kept : List Digest) (bytes : Result (List ℕ) Refused)
    → has_front size (length kept) ≡ true → 0 < old_size → old_size ≤ size → if_older old_size size kept bytes ≡ bytes
all-older old_size size kept bytes stands some older =
    rw (stands, lt-ltb 0 old_size some, le-ltb size old_size older) refl

-- ---- growth

pub room-enough : (size count more room : ℕ) → more ≡ more_count size count → more ≤ room → stored_count (size + count)
    ≤ stored_count size + room
room-enough size count more room is le = omega (arith, count-rises size (size + count) (omega arith))

pub more-is : (size count more : ℕ) → stored_count size + more ≡ stored_count (size + count) → more
    ≡ more_count size count
more-is size count more is = omega arith

some-same : {A : Type 0} (x y : A) → Some x ≡ Some y → x ≡ y
some-same {A} x y is = ap (λ o. held o) is
  where
    held : Option A → A
    held None = x
    held (Some z) = z

more-parts : (short : Bool) (part : List ℕ) (rest : Option (List (List ℕ))) (count : ℕ)
    → ((others : List (List ℕ)) → rest ≡ Some others → length others ≡ count) → (parts : List (List ℕ))
    → (if short then None else (option_map (λ others. part ∷ others) rest)) ≡ Some parts → length parts ≡ suc count
more-parts true part rest count so parts told = absurd cc
more-parts false part None count so parts told = absurd cc
more-parts false part (Some others) count so parts told =
    ap length (sym (some-same (part ∷ others) parts told)) ∙ ap suc (so others refl)

-- There are as many parts as lengths.
length-parts : (bytes lengths : List ℕ) (parts : List (List ℕ)) → parts_by bytes lengths ≡ Some parts → length parts
    ≡ length lengths
length-parts bytes [] parts is = go (nat_lt 0 (length bytes)) is
  where
    go : (left : Bool) → (if left then None else Some []) ≡ Some parts → length parts ≡ 0
    go true told = absurd cc
    go false told = ap length (sym (some-same [] parts told))
length-parts bytes (len ∷ lengths) parts is = more-parts (nat_lt (length bytes) len) (take len bytes)
    (parts_by (drop len bytes) lengths) (length lengths) (λ others same. length-parts (drop len bytes) lengths others
    same) parts is

-- The entries that have these digests.
pub record Entries (entries lengths : List ℕ) (digests : List Digest) : Type 0 where
  pub all : List (List ℕ)
  pub given : leaves_in (parts_by entries lengths) ≡ Ok all
  pub hashed : map entry_hash all ≡ digests
  pub count : length digests ≡ length lengths

pub entries-of : (entries lengths : List ℕ) (digests : List Digest)
    → results_of entry_hash (leaves_in (parts_by entries lengths)) ≡ Ok digests
    → Entries entries lengths digests
entries-of entries lengths digests is = go (parts_by entries lengths) refl is
  where
    go : (parts : Option (List (List ℕ))) → parts_by entries lengths ≡ parts → results_of entry_hash (leaves_in parts)
        ≡ Ok digests → Entries entries lengths digests
    go None same told = absurd cc
    go (Some all) same told =
        let hashed : map entry_hash all ≡ digests = done_injective {E = Refused} (map entry_hash all) digests told in
        record {
          all = all;
          given = ap leaves_in same;
          hashed = hashed;
          count = sym (ap length hashed) ∙ length-map all entry_hash ∙ length-parts entries lengths all same;
        }

pub appended-all : (size : ℕ) (kept : List Digest) (room : ℕ) (entries lengths : List ℕ) (all : List (List ℕ))
    → has_front size (length kept) ≡ true → takes size (length lengths) ≡ true → more_count size (length lengths) ≤ room
    → leaves_in (parts_by entries lengths) ≡ Ok all → appended size kept room entries lengths ≡ Ok all
appended-all size kept room entries lengths all stands taken le given =
    rw (stands, taken, le-ltb room (more_count size (length lengths)) le, given) refl
