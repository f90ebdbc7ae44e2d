-- What bytes that were read whole show of a tree.
use Rattle.std.proofs.Common.{◌≡◌, ℕ, suc, ◌+◌, ◌-◌, ◌<◌, ◌%◌, ◌^◌, nat_lt, ◌==◌, ◌&&◌, Bool, true, false, if◌then◌else◌, Some, List, [], ◌∷◌, length, map, get_or, Ok, Err, refl, ap, sym, subst, ◌∙◌, arith}
use Rattle.std.specs.List.{AllByRecursion, list_all}
use Rattle.std.specs.Str.{bytes_eq}
use Rattle.std.proofs.lemmas.Bool.{and_parts, eqb-true, ltb-true}
use Rattle.std.proofs.lemmas.List.{length-map, nil_from_length}
use Rattle.std.specs.declared.vec.Vec.{Vec}
use Rattle.std.proofs.lemmas.Slice.Eq.{bytes_eq-Decides}
use Rattle.std.proofs.Math.Nat.{mod-eq_of_lt}
use Rattle.ark_base.specs.declared.error.Error.{Error}
use Rattle.ark_base.specs.declared.error.Error.TheVariants.{IncorrectInputLength, SerializationError as OfBytes}
use Rattle.ark_base.specs.declared.error.SerializationError.{SerializationError}
use Rattle.ark_base.specs.declared.error.SerializationError.TheVariants.{InvalidData}
use Rattle.ark_base.specs.Laws.Steps.{bind_ok, done_injective}
use Rattle.ark_base.specs.Outcome.{Outcome, ◌>>=◌}
use Rattle.ark_base.specs.Reading.{Reading, reading_outcome}
use Rattle.ark_paths.specs.Bind.{StandsOrCollides, BindsLeaf, BindsLeaves}
use Rattle.ark_paths.specs.Index.{IsTreeSize, log2, is_tree_size}
use Rattle.ark_paths.specs.MultiPath.{MultiWay, listed_way, path_length, decoded_paths}
use Rattle.ark_paths.specs.MultiPathStrict.{is_strict, strict_reading}
use Rattle.ark_paths.specs.Pair.{Digest, Hashes}
use Rattle.ark_paths.specs.Path.{Way}
use Rattle.ark_paths.specs.Received.{provided, is_fit, received_path, received_multi_path, StandsAt, StandInTurn, ShowsLeaf, ShowsLeaves}
use Rattle.ark_paths.proofs.Logs.{log2-pow}
use Rattle.ark_paths.proofs.Readings.{first-seen}
use Rattle.ark_paths.proofs.SizeLemmas.{power_decided}
use Rattle.ark_paths.proofs.StrictLaws.{made_of, within_tree}
use Rattle.ark_paths.proofs.StrictReadings.{read_of, fault_of}

-- ---- the refusals

pub refused_alike : {A B : Type 0} (plain : Reading A) (reading : Reading B) → ((fault : SerializationError) → plain
    ≡ Err fault → reading ≡ Err fault) → (e : Error) → reading_outcome plain ≡ Err e → reading_outcome reading ≡ Err e
refused_alike plain reading alike e refused = let f = fault_of plain e refused in rw (alike f.0 f.1) (ap Err (sym f.2))

module _ (size index : ℕ) (reading : Reading Way) (sized : is_tree_size size ≡ true) where
  pub received-fault : (e : Error) → reading_outcome reading ≡ Err e → received_path size index reading ≡ Err e
  received-fault e refused = rw (sized, refused) refl

  -- what is said of a path that was read, by its parts
  pub received-read : {U : Type 0} (inner : U → Digest) (items : List U) {way : Way} {rest : List ℕ} {sibling : Digest}
      {own count : ℕ} {asked : Bool} {fits : Outcome (Unit {0})} → reading ≡ Ok (way, rest)
      → way ≡ record { sibling = sibling; above = map inner items; index = own } → count ≡ length items
      → asked ≡ ((own == index) && nat_lt index size) → fits ≡ is_fit size rest count asked
      → received_path size index reading ≡ (fits >>= λ _. Ok way)
  received-read inner items read is long asked_is fits_are =
      rw (sized, read, ap (λ (w : Way). length w.above) is, length-map items inner, ap (λ (w : Way). w.index) is)
      (rw (← long, ← asked_is, ← fits_are) refl)

-- ---- what is shown

pub provided-true : (holds : Bool) (error : Error) → provided holds error ≡ Ok tt → holds ≡ true
provided-true true error is = refl
provided-true false error is = absurd cc

-- a proof that is fit has no bytes behind it, the length of the tree's paths, and what was asked for
pub record IsFit (size : ℕ) (behind : List ℕ) (above : ℕ) (asked : Bool) : Type 0 where
  pub none_behind : behind ≡ []
  pub long : above ≡ log2 size - 1
  pub is_asked : asked ≡ true

pub fit : (size : ℕ) (behind : List ℕ) (above : ℕ) (asked : Bool) → is_fit size behind above asked ≡ Ok tt
    → IsFit size behind above asked
fit size behind above asked is =
    let first = bind_ok (provided (length behind == 0) (OfBytes InvalidData)) (λ _. provided (above == log2 size - 1)
    (IncorrectInputLength above) >>= λ _. provided asked (OfBytes InvalidData)) tt is in
    let second = bind_ok (provided (above == log2 size - 1) (IncorrectInputLength above))
    (λ _. provided asked (OfBytes InvalidData)) tt first.2 in
    record {
      none_behind = nil_from_length behind (eqb-true (length behind) 0 (provided-true (length behind == 0)
          (OfBytes InvalidData) first.1));
      long = eqb-true above (log2 size - 1) (provided-true (above == log2 size - 1)
          (IncorrectInputLength above) second.1);
      is_asked = provided-true asked (OfBytes InvalidData) second.2;
    }

pub size-decided : (size : ℕ) → is_tree_size size ≡ true → IsTreeSize size
size-decided size is = let both = and_parts (nat_lt 1 size) (size == 2 ^ log2 size) is in
    (power_decided size (ltb-true 1 size both.0)).0 both.1

-- what a proof that was received was found to be
received-parts : {W : Type 0} (size : ℕ) (outcome : Outcome (W × List ℕ)) (above : W → ℕ) (asked : W → Bool) (w : W)
    → (provided (is_tree_size size) (IncorrectInputLength size) >>= λ _. outcome >>= λ read.
    is_fit size read.1 (above read.0) (asked read.0) >>= λ _. Ok read.0) ≡ Ok w
    → IsTreeSize size × (outcome ≡ Ok (w, [])) × (above w ≡ log2 size - 1) × (asked w ≡ true)
received-parts size outcome above asked w is =
    let sized = bind_ok (provided (is_tree_size size) (IncorrectInputLength size)) (λ _. outcome >>= λ read.
    is_fit size read.1 (above read.0) (asked read.0) >>= λ _. Ok read.0) w is in
    let read = bind_ok outcome (λ read. is_fit size read.1 (above read.0) (asked read.0) >>= λ _. Ok read.0) w
    sized.2 in
    let fits = bind_ok (is_fit size read.0.1 (above read.0.0) (asked read.0.0)) (λ _. Ok read.0.0) w read.2 in
    let parts = fit size read.0.1 (above read.0.0) (asked read.0.0) fits.1 in
    let same = done_injective read.0.0 w fits.2 in (
      size-decided size (provided-true (is_tree_size size) (IncorrectInputLength size) sized.1),
      read.1 ∙ (λ i. Ok (same i, parts.none_behind i)),
      ap above (sym same) ∙ parts.long,
      ap asked (sym same) ∙ parts.is_asked,
    )

-- a path of the tree's length, at its index, shows what it binds
module _ {A : Type 0} (hashes : Hashes A) (r : Digest) (size index : ℕ) (leaf : A) (way : Way) where
  pub bound-stands-at : IsTreeSize size → length way.above ≡ log2 size - 1 → way.index ≡ index → index < size
      → BindsLeaf hashes r leaf way → StandsAt hashes r size index leaf way
  bound-stands-at sized long at below bound = (
    below,
    λ digests same rooted.
        let place : way.index % length digests ≡ index = rw (at, same) (mod-eq_of_lt below) in
        subst (λ (i : ℕ). StandsOrCollides (record { hashes = hashes; leaves = digests }) i leaf way) place
        (bound digests (subst IsTreeSize (sym same) sized) (long ∙ ap (λ (n : ℕ). log2 n - 1) (sym same)) rooted),
  )

  pub received-shows : (reading : Reading Way) → received_path size index reading ≡ Ok way → BindsLeaf hashes r leaf way
      → ShowsLeaf hashes r size index leaf reading
  received-shows reading received bound =
      let (sized, read, long, is_asked) = received-parts size (reading_outcome reading) (λ w. length w.above)
      (λ w. (w.index == index) && nat_lt index size) way received in
      let asked = and_parts (way.index == index) _ is_asked in (
        way,
        read_of reading (way, []) read,
        bound-stands-at sized long (eqb-true way.index index asked.0) (ltb-true index size asked.1) bound,
      )

-- ---- strict multi-proofs

module _ (size : ℕ) (indexes : List ℕ) (reading : Reading MultiWay) (sized : is_tree_size size ≡ true) where
  pub received-multi-fault : (e : Error) → reading_outcome (strict_reading reading) ≡ Err e → received_multi_path size
      indexes reading ≡ Err e
  received-multi-fault e refused = rw (sized, refused) refl

  -- what is said of a multi-proof that was read, by its lists
  pub received-multi-read : {S D Z : Type 0} (leaf : S → Digest) (inner : D → Digest) (siblings : List S)
      (rows : List (Vec D Z)) {m : MultiWay} {rest : List ℕ} {prefixes own : List ℕ} {asked : Bool}
      {fits : Outcome (Unit {0})} → reading_outcome (strict_reading reading) ≡ Ok (m, rest)
      → m ≡ listed_way leaf inner siblings prefixes rows own → asked ≡ bytes_eq own indexes
      → fits ≡ is_fit size rest (length (get_or (map (λ (row : Vec D Z). row.items) rows) 0 [])) asked
      → received_multi_path size indexes reading ≡ (fits >>= λ _. Ok m)
  received-multi-read leaf inner siblings rows read is asked_is fits_are =
      rw (sized, read, ap path_length is, first-seen inner rows, ap (λ (w : MultiWay). w.indexes) is)
      (rw (← asked_is, ← fits_are) refl)

-- what is read strictly is strict
strict-of : (reading : Reading MultiWay) (m : MultiWay) (rest : List ℕ) → strict_reading reading ≡ Ok (m, rest)
    → is_strict m ≡ true
strict-of reading m rest is =
    let read = bind_ok reading (λ (r : MultiWay × List ℕ). if is_strict r.0 then Ok r else Err InvalidData)
    (m, rest) is in
    by_test read.0 (is_strict read.0.0) refl read.2
  where
    by_test : (r : MultiWay × List ℕ) (t : Bool) → is_strict r.0 ≡ t → (if t then Ok r else Err InvalidData)
        ≡ Ok (m, rest) → is_strict m ≡ true
    by_test r true holds same = ap (λ (q : MultiWay × List ℕ). is_strict q.0) (sym (done_injective _ _ same)) ∙ holds
    by_test r false holds same = absurd cc

module _ {A : Type 0} (hashes : Hashes A) (r : Digest) (size : ℕ) (sized : IsTreeSize size) where
  -- each leaf that its path binds stands at the path's index
  stand-bound : (ways : List Way) (leaves : List A) → AllByRecursion (λ way. length way.above ≡ log2 size - 1) ways
      → AllByRecursion (λ (way : Way). way.index < size) ways → BindsLeaves hashes r leaves (map Some ways)
      → StandInTurn hashes r size leaves ways
  stand-bound [] leaves long inside bound = tt
  stand-bound (way ∷ ways) [] long inside bound = bound
  stand-bound (way ∷ ways) (leaf ∷ leaves) long inside bound = (
    bound-stands-at hashes r size way.index leaf way sized long.0 refl inside.0 bound.0,
    stand-bound ways leaves
        long.1 inside.1 bound.1,
  )

all-below : (bound : ℕ) (ways : List Way) → list_all (λ index. nat_lt index bound) (map (λ way. way.index) ways) ≡ true
    → AllByRecursion (λ (way : Way). way.index < bound) ways
all-below bound [] all = tt
all-below bound (way ∷ ways) all = let both = and_parts (nat_lt way.index bound) (list_all (λ index. nat_lt index bound)
    (map (λ way. way.index) ways)) all in (ltb-true way.index bound both.0, all-below bound ways both.1)

size-power : (size : ℕ) → IsTreeSize size → size ≡ 2 ^ (log2 size - 1 + 1)
size-power size sized =
    let log : log2 size ≡ suc sized.0 = ap log2 sized.1 ∙ log2-pow (suc sized.0) in
    let up : log2 size - 1 + 1 ≡ suc sized.0 = omega (arith, log) in
    rw (up) sized.1

module _ {A : Type 0} (hashes : Hashes A) (r : Digest) (size : ℕ) (indexes : List ℕ) (leaves : List A)
    (m : MultiWay) where
  pub received-multi-shows : (reading : Reading MultiWay) → received_multi_path size indexes reading ≡ Ok m
      → BindsLeaves hashes r leaves (decoded_paths m) → ShowsLeaves hashes r size indexes leaves reading
  received-multi-shows reading received bound =
      let (sized, read, long, is_asked) = received-parts size (reading_outcome (strict_reading reading)) path_length
      (λ w. bytes_eq w.indexes indexes) m received in
      let reads = read_of (strict_reading reading) (m, []) read in
      let strict = strict-of reading m [] reads in
      let made = made_of m strict in
      let power : 2 ^ (path_length m + 1) ≡ size = ap (λ (n : ℕ). 2 ^ (n + 1)) long ∙ sym (size-power size sized) in
      let below = all-below (2 ^ (path_length m + 1)) made.ways (rw made.indexes at (within_tree m strict)) in
      record {
        proof = m;
        read = reads;
        ways = made.ways;
        decoded = made.decoded;
        places = sym made.indexes ∙ (bytes_eq-Decides m.indexes indexes).0 is_asked;
        stand = stand-bound hashes r size sized made.ways leaves
            (subst (λ (n : ℕ). AllByRecursion (λ (way : Way). length way.above ≡ n) made.ways) long made.long)
            (subst (λ (n : ℕ). AllByRecursion (λ (way : Way). way.index < n) made.ways) power below)
            (subst (BindsLeaves hashes r leaves) made.decoded bound);
      }
