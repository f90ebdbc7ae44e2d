-- Leaves that are appended one after the other behind the digests that are kept.
use Rattle.std.proofs.Common.{◌≡◌, ℕ, ◌+◌, ◌-◌, ◌<◌, ◌≤◌, List, [], ◌++◌, length, take, drop, get_or, arith, refl, ap, sym, ◌∙◌}
use Rattle.std.proofs.lemmas.List.{append-nil, drop-drop, length-append, length-take-le, take_all, take_more}
use Rattle.ark_paths.specs.Pair.{Digest}
use Rattle.ark_base.specs.declared.error.Error.{Error}
use Rattle.merkle_log.specs.Append.{Completes, RefusesCarry}
use Rattle.merkle_log.specs.Stored.{stored_count, row_at, IsStored}
use Rattle.merkle_log.proofs.Completing.{completes-appends}
use Rattle.merkle_log.proofs.Growing.{AppendsAll, all-next, extends-itself}
use Rattle.merkle_log.specs.Kept.{front, KeepsBy, RefusesAppend}
use Rattle.merkle_log.specs.Log.{NodeHash}
use Rattle.merkle_log.proofs.Making.{items, length-items, room-first}
use Rattle.merkle_log.proofs.Positions.{count-rises}
use Rattle.merkle_log.proofs.KeptRows.{cut-hashed, cut-lowest, kept-by}

-- So many leaves are appended behind the stored digests, and the buffer has so many digests for them.
pub record Appending (hash : NodeHash) (stored : List Digest) (size : ℕ) (digests old more : List Digest)
    (place made : ℕ) : Type 0 where
  pub count : length stored + made ≡ stored_count (size + place)
  pub grows : IsStored hash (row_at (front size stored))
      → AppendsAll hash (front size stored) (take place digests) (front (size + place) (items stored made more))
  pub behind : drop made more ≡ drop made old
  pub same : length more ≡ length old

pub appending-first : {hash : NodeHash} (stored : List Digest) (size : ℕ) (digests old : List Digest)
    → length stored ≡ stored_count size → Appending hash stored size digests old old 0 0
appending-first stored size digests old whole =
    let none : size + 0 ≡ size = omega arith in
    record {
      count = rw (none) (omega arith);
      grows = λ hashed. rw (none, append-nil) (record {
        first_row = sym (append-nil (row_at (front size stored) 0));
        whole = whole;
        stored = hashed;
        extends = extends-itself (front size stored) whole;
      });
      behind = refl;
      same = refl;
    }

-- One digest more is appended, and the buffer has those that it makes.
pub record OneMore (hash : NodeHash) (stored : List Digest) (size : ℕ) (digest : Digest) (more next : List Digest)
    (made after : ℕ) : Type 0 where
  pub completed : Completes hash size (items stored made more) digest (items stored after next)
  pub whole : length stored + after ≡ stored_count (size + 1)
  pub behind : drop after next ≡ drop after more
  pub same : length next ≡ length more

module _ {hash : NodeHash} {stored digests old more : List Digest} {size place made : ℕ}
    (at : Appending hash stored size digests old more place made) where
  pub appending-next : {next : List Digest} {after : ℕ} → made ≤ length more → place < length digests
      → OneMore hash stored (size + place) (get_or digests place []) more next made after
      → Appending hash stored size digests old next (place + 1) after
  appending-next {next} {after} room inside one_more =
      let one : size + place + 1 ≡ size + (place + 1) = omega arith in
      let rises = room-first (size + place) in
      let less : made + (after - made) ≡ after = omega (arith, at.count, one_more.whole) in
      record {
        count = one_more.whole ∙ ap stored_count one;
        grows = λ hashed. rw (← one, take_more digests place [] inside) (all-next (front size stored)
            (front (size + place) (items stored made more)) (front (size + place + 1) (items stored after next))
            (take place digests) (get_or digests place []) (at.grows hashed)
            (completes-appends one_more.completed (length-items stored more made room ∙ at.count)));
        behind = one_more.behind ∙ ap (λ n. drop n more) (sym less) ∙ sym (drop-drop (after - made) made more)
            ∙ ap (drop (after - made)) at.behind ∙ drop-drop (after - made) made old ∙ ap (λ n. drop n old) less;
        same = one_more.same ∙ at.same;
      }

  -- The digests that were made are in the buffer.
  pub appending-fits : length stored ≡ stored_count size
      → stored_count (size + length digests) ≤ stored_count size + length old → place ≤ length digests
      → made ≤ length more
  appending-fits long room inside =
      let rises = count-rises (size + place) (size + length digests) (omega arith) in
      omega (arith, at.same, at.count)

  -- There is room for the digests of one more.
  pub appending-room : stored_count (size + length digests) ≤ stored_count size + length old
      → place < length digests → stored_count (size + place + 1) ≤ stored_count size + length more
  appending-room room inside =
      let rises = count-rises (size + place + 1) (size + length digests) (omega arith) in
      omega (arith, at.same)

module _ {hash : NodeHash} {leaves kept digests old more : List Digest} {size place made : ℕ}
    (at : Appending hash (take (stored_count size) kept) size digests old more place made) (room : made ≤ length more)
    (inside : place ≤ length digests) (count : length leaves ≡ size) (keeps : KeepsBy hash leaves kept) where
  -- What is stored and what was made are the stored digests of the list with those that were appended behind it.
  pub appending-keeps : KeepsBy hash (leaves ++ take place digests) (take (stored_count size) kept ++ take made more)
  appending-keeps =
      let grown = at.grows (cut-hashed keeps size count) in
      let sum : length (leaves ++ take place digests) ≡ size + place = omega (
        arith,
        length-append leaves (take place digests),
        length-take-le place digests inside,
      ) in
      kept-by hash (size + place) (leaves ++ take place digests) (items (take (stored_count size) kept) made more) sum
      (omega (arith, grown.whole))
      (grown.first_row ∙ ap (λ l. l ++ take place digests) (cut-lowest keeps size count)) grown.stored

  pub appending-all : place ≡ length digests
      → KeepsBy hash (leaves ++ digests) (take (stored_count size) kept ++ take made more)
  appending-all all = rw (take_all place digests (omega arith)) at appending-keeps

  -- The next one is refused.
  pub appending-refused : (error : Error) → place < length digests
      → RefusesCarry hash (row_at (front (size + place) (items (take (stored_count size) kept) made more)))
      (get_or digests place []) error → RefusesAppend hash leaves digests error
  appending-refused error below refused = record {
    place = place;
    inside = below;
    before = items (take (stored_count size) kept) made more;
    keeps = appending-keeps;
    refused = rw (count) refused;
  }
