-- What is read of a frontier's bytes.
use Rattle.std.proofs.Common.{zero, suc, ◌≡◌, ℕ, ◌<◌, ◌^◌, List, [], ◌∷◌, ◌++◌, length, map, Ok, Err, refl, ap, sym, ◌∙◌, append-nil}
use Rattle.std.proofs.lemmas.List.{length-map}
use Rattle.std.specs.List.{flat_map, AllByRecursion}
use Rattle.std.specs.Prelude.{count_ones}
use Rattle.ark_base.specs.declared.error.Error.{Error}
use Rattle.ark_base.specs.declared.error.SerializationError.{SerializationError}
use Rattle.ark_base.specs.Outcome.{◌>>=◌}
use Rattle.ark_base.specs.Reading.{Reading, IsCanonical, reading_outcome}
use Rattle.ark_base.specs.Spelling.{word, items_at}
use Rattle.ark_base.specs.Laws.Lists.{items_laws}
use Rattle.ark_base.specs.Laws.Numbers.{word_laws}
use Rattle.ark_base.specs.Laws.Steps.{bind_ok, done_injective}
use Rattle.ark_paths.specs.Pair.{Digest}
use Rattle.merkle_log.specs.Frontier.{peaks_in}
use Rattle.merkle_log.specs.Received.{digests_in, whole_read}

-- as many are read as are asked for
length-items : {V : Type 0} (reads : List ℕ → Reading V) (count : ℕ) (bytes : List ℕ) (values : List V) (rest : List ℕ)
    → items_at reads count bytes ≡ Ok (values, rest) → length values ≡ count
unfolding items_at
length-items reads zero bytes values rest e =
    ap (λ read. length read.0) (sym (done_injective {E = SerializationError} _ _ e))
length-items reads (suc count) bytes values rest e =
    let first = bind_ok (reads bytes)
    (λ first. items_at reads count first.1 >>= λ others. Ok (first.0 ∷ others.0, others.1)) (values, rest) e in
    let others = bind_ok (items_at reads count first.0.1) (λ others. Ok (first.0.0 ∷ others.0, others.1))
    (values, rest) first.2 in
    ap (λ read. length read.0) (sym (done_injective {E = SerializationError} _ _ others.2))
    ∙ ap suc (length-items reads count first.0.1 others.0.0 others.0.1 others.1)

length-whole : {V : Type 0} (digest : V → Digest) (read : List V × List ℕ) (digests : List Digest) → whole_read digest
    read ≡ Ok digests → length digests ≡ length read.0
length-whole digest (values, []) digests e =
    ap length (sym (done_injective {E = Error} _ _ e)) ∙ length-map values digest
length-whole digest (values, byte ∷ bytes) digests e = absurd cc

pub length-digests : {V : Type 0} (reads : List ℕ → Reading V) (digest : V → Digest) (count : ℕ) (bytes : List ℕ)
    (digests : List Digest) → digests_in reads digest count bytes ≡ Ok digests → length digests ≡ count
length-digests {V} reads digest count bytes digests e = by_reading (items_at reads count bytes) refl e
  where
    by_reading : (r : Reading (List V)) → items_at reads count bytes ≡ r
        → (reading_outcome r >>= whole_read digest) ≡ Ok digests → length digests ≡ count
    by_reading (Ok read) is e =
        length-whole digest read digests e ∙ length-items reads count bytes read.0 read.1 is
    by_reading (Err fault) is e = absurd cc

-- digests by their bytes
pub spelled-digests : {A V : Type 0} (numbers : A → Digest) (view : A → V) (spelling : V → List ℕ)
    (bytes_of : Digest → List ℕ) → ((a : A) → spelling (view a) ≡ bytes_of (numbers a)) → (items : List A)
    → flat_map spelling (map view items) ≡ flat_map bytes_of (map numbers items)
spelled-digests numbers view spelling bytes_of same [] = refl
spelled-digests numbers view spelling bytes_of same (a ∷ items) =
    rw (same a) (ap (λ l. bytes_of (numbers a) ++ l) (spelled-digests numbers view spelling bytes_of same items))

-- what is written is read again
pub peaks-again : {V : Type 0} (has_spelling : V → Type 0) (spelling : V → List ℕ) (reads : List ℕ → Reading V)
    (laws : IsCanonical has_spelling spelling reads) (digest : V → Digest) (size : ℕ) (values : List V) → size < 2 ^ 64
    → AllByRecursion has_spelling values → length values ≡ count_ones size
    → peaks_in reads digest (word size ++ flat_map spelling values) ≡ Ok (size, map digest values)
peaks-again has_spelling spelling reads laws digest size values fits spelled count =
    let first = word_laws.again size (flat_map spelling values) fits in
    let items = ap (items_at reads (count_ones size)) (sym (append-nil (flat_map spelling values)))
    ∙ (items_laws has_spelling spelling reads laws (count_ones size)).again values [] (spelled, count) in
    rw (first, items) refl

-- what is written, part by part
pub written_is : {A V : Type 0} (spelling : V → List ℕ) (view : A → V) (size : ℕ) (none first all : List ℕ)
    (items peaks : List A) → none ≡ [] → first ≡ none ++ word size → all ≡ first ++ flat_map spelling (map view items)
    → items ≡ peaks → all ≡ word size ++ flat_map spelling (map view peaks)
written_is spelling view size none first all items peaks none_is first_is all_is same =
    all_is ∙ ap (λ l. l ++ flat_map spelling (map view items)) (first_is ∙ ap (λ l. l ++ word size) none_is)
    ∙ ap (λ l. word size ++ flat_map spelling (map view l)) same
