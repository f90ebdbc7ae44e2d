-- A log's list with one leaf more.
use Rattle.std.proofs.Common.{◌≡◌, ◌+◌, ◌≤◌, ℕ, ◌++◌, List, [], ◌∷◌, length, take, drop, Ok, Err, OnOk, OnErr, IfErr, ◌⊎◌, inl, inr, refl, ap, sym, ◌∙◌, arith}
use Rattle.std.proofs.lemmas.List.{take_all, take-append-drop, take-take, drop-take, append-nil, append_assoc}
use Rattle.ark_base.specs.declared.error.Error.{Error}
use Rattle.ark_base.specs.declared.error.Error.TheVariants.{OutOfMemory}
use Rattle.ark_base.specs.Outcome.{Outcome}
use Rattle.ark_paths.specs.Pair.{Digest, Hashes}
use Rattle.ark_paths.specs.Root.{all_hashes}
use Rattle.ark_paths.proofs.Ahead.{so_far-run}
use Rattle.ark_paths.proofs.ListOutcomes.{IsSoFar, IsSoFar-none, IsSoFar-all, each-append}
use Rattle.merkle_log.specs.Log.{NodeHash}
use Rattle.merkle_log.specs.Stored.{StoredValue, stored_count, row_at, IsStored}
use Rattle.merkle_log.specs.Append.{Appends, AppendsLeaves, GrowsTo, IsWholeList, RefusesLeaves, RefusesRow}
use Rattle.merkle_log.specs.Rising.{with_rows}
use Rattle.merkle_log.proofs.KeptRows.{stored-same}
use Rattle.merkle_log.proofs.Positions.{count-rises}
use Rattle.merkle_log.proofs.Carried.{stored-pushed, pushed-first}

-- what a log keeps true of its list
pub record IsKept (hash : NodeHash) (stored : StoredValue) : Type 0 where
  pub whole : IsWholeList stored
  pub stored_is : IsStored hash (row_at stored)

module _ {V : Type 0} (hash : NodeHash) (old new : StoredValue) (digest : Digest) (result : Outcome V) where
  pub appends-kept : IsKept hash old → OnOk result (Appends hash old digest new) → OnErr result (new ≡ old)
      → IsKept hash new
  appends-kept kept appended same = by_result result appended same
    where
      by_result : (result : Outcome V) → OnOk result (Appends hash old digest new) → OnErr result (new ≡ old)
          → IsKept hash new
      by_result (Ok v) appended same = record {
        whole = appended.whole;
        stored_is = stored-pushed hash (row_at old)
            (row_at new) digest appended.made kept.stored_is appended.carried appended.rows;
      }
      by_result (Err e) appended same = rw (same) kept

-- ---- many leaves

-- A log's list is followed by more leaves' digests and those that they make.
pub record AppendsAll (hash : NodeHash) (old : StoredValue) (digests : List Digest) (new : StoredValue) :
    Type 0 where
  pub first_row : row_at new 0 ≡ row_at old 0 ++ digests
  pub whole : IsWholeList new
  pub stored : IsStored hash (row_at new)
  pub extends : GrowsTo old new

pub extends-itself : (stored : StoredValue) → IsWholeList stored → GrowsTo stored stored
extends-itself stored whole = record {
  size = omega arith;
  front = take_all (stored_count stored.size) stored.digests
      (omega arith);
}

pub extends-more : (a b c : StoredValue) → GrowsTo a b → GrowsTo b c → GrowsTo a c
extends-more a b c first second =
    let less = first.size in
    let more = second.size in
    record {
      size = omega arith;
      front = sym (take-take (stored_count a.size) (stored_count b.size) c.digests (count-rises a.size b.size less))
          ∙ ap (take (stored_count a.size)) second.front ∙ first.front;
    }

module _ {hash : NodeHash} where
  pub all-first : (old new : StoredValue) (digest : Digest) → IsStored hash (row_at old) → Appends hash old digest new
      → AppendsAll hash old (digest ∷ []) new
  all-first old new digest stored appended = record {
    first_row = pushed-first hash (row_at old) (row_at new) digest appended.made appended.carried appended.rows;
    whole = appended.whole;
    stored = stored-pushed hash (row_at old) (row_at new) digest appended.made stored appended.carried appended.rows;
    extends = appended.extends;
  }

  pub all-more : (old mid new : StoredValue) (digests more : List Digest) → AppendsAll hash old digests mid
      → AppendsAll hash mid more new → AppendsAll hash old (digests ++ more) new
  all-more old mid new digests more first second = record {
    first_row = second.first_row ∙ ap (λ l. l ++ more) first.first_row ∙ append_assoc (row_at old 0) digests more;
    whole = second.whole;
    stored = second.stored;
    extends = extends-more old mid new first.extends second.extends;
  }

  pub all-next : (old mid new : StoredValue) (digests : List Digest) (digest : Digest) → AppendsAll hash old digests mid
      → Appends hash mid digest new → AppendsAll hash old (digests ++ (digest ∷ [])) new
  all-next old mid new digests digest first appended =
      all-more old mid new digests (digest ∷ []) first
      (all-first mid new digest first.stored appended)

-- Rows were laid behind those of a list.
pub laid-all : (hash : NodeHash) (old new : StoredValue) (left : ℕ → List Digest) (digests : List Digest)
    → left 0 ≡ digests → IsStored hash (with_rows (row_at old) left)
    → ((level : ℕ) → row_at new level ≡ with_rows (row_at old) left level) → IsWholeList new → GrowsTo old new
    → AppendsAll hash old digests new
laid-all hash old new left digests lowest hashed laid whole extends = record {
  first_row = laid 0 ∙ ap (λ l. row_at old 0 ++ l) lowest;
  whole = whole;
  stored = stored-same hash (with_rows (row_at old) left) (row_at new) (λ level. sym (laid level)) hashed;
  extends = extends;
}

-- A leaf's digest is refused, so the leaf is.
pub leaf-refused : {A V : Type 0} (hashes : Hashes A) (old : List Digest) (leaf : A) (digest : Digest)
    (result : Outcome V) → hashes.leaf leaf ≡ Ok digest
    → IfErr result (λ error. (error ≡ OutOfMemory) ⊎ RefusesRow hashes.pair.upper (old ++ (digest ∷ [])) error)
    → IfErr result (λ error. (error ≡ OutOfMemory) ⊎ (hashes.leaf leaf ≡ Err error)
    ⊎ RefusesLeaves hashes old (leaf ∷ []) error)
leaf-refused hashes old leaf digest (Ok v) hashed refused = tt
leaf-refused hashes old leaf digest (Err e) hashed refused = elim refused [
  | inl memory ↦ inl memory
  | inr row ↦ inr (inr (record { count = 1; more = digest ∷ []; hashed = rw (hashed) refl; refused = row }))
]

-- The list has the digests of the first leaves behind.
pub record AppendsFirst {A : Type 0} (hashes : Hashes A) (old : StoredValue) (leaves : List A) (count : ℕ)
    (new : StoredValue) : Type 0 where
  pub kept : IsKept hashes.pair.upper new
  pub extends : GrowsTo old new
  pub digests : List Digest
  pub hashed : IsSoFar hashes.leaf leaves count digests
  pub front : all_hashes hashes.leaf (take count leaves) ≡ Ok digests
  pub first_row : row_at new 0 ≡ row_at old 0 ++ digests

module _ {A : Type 0} {hashes : Hashes A} {old : StoredValue} {leaves : List A} where
  pub appends-none : IsWholeList old → IsStored hashes.pair.upper (row_at old) → AppendsFirst hashes old leaves 0 old
  appends-none whole stored = record {
    kept = record { whole = whole; stored_is = stored };
    extends = extends-itself old whole;
    digests = [];
    hashed = IsSoFar-none hashes.leaf leaves;
    front = refl;
    first_row = sym (append-nil (row_at old 0));
  }

  module _ {count : ℕ} {mid : StoredValue} (run : ℕ) (at : AppendsFirst hashes old leaves count mid)
      (more : List Digest) (hashed : all_hashes hashes.leaf (take run (drop count leaves)) ≡ Ok more) where
    front-more : all_hashes hashes.leaf (take (count + run) leaves) ≡ Ok (at.digests ++ more)
    front-more =
        let all = take (count + run) leaves in
        ap (all_hashes hashes.leaf) (sym (take-append-drop count all)) ∙ each-append hashes.leaf (take count all)
        (drop count all)
        ∙ rw (take-take count (count + run) leaves (omega arith), drop-take count run leaves, at.front, hashed) refl

    pub appends-run : {new : StoredValue} → AppendsAll hashes.pair.upper mid more new
        → AppendsFirst hashes old leaves (count + run) new
    appends-run {new} appended = record {
      kept = record { whole = appended.whole; stored_is = appended.stored };
      extends = extends-more old mid new at.extends appended.extends;
      digests = at.digests ++ more;
      hashed = so_far-run hashes.leaf leaves count run at.digests at.hashed more hashed;
      front = front-more;
      first_row = appended.first_row ∙ ap (λ l. l ++ more) at.first_row ∙ append_assoc (row_at old 0) at.digests more;
    }

    -- The hash refuses a pair of the list with the run behind.
    pub appends-refused : (error : Error) → RefusesRow hashes.pair.upper (row_at mid 0 ++ more) error
        → RefusesLeaves hashes (row_at old 0) leaves error
    appends-refused error refused = record {
      count = count + run;
      more = at.digests ++ more;
      hashed = front-more;
      refused = rw (at.first_row, append_assoc) at refused;
    }

  pub appends-all : {count : ℕ} {new : StoredValue} → AppendsFirst hashes old leaves count new → length leaves ≤ count
      → AppendsLeaves hashes old leaves new
  appends-all {count} at all = record {
    digests = at.digests;
    hashed = IsSoFar-all hashes.leaf leaves count at.digests all at.hashed;
    first_row = at.first_row;
    whole = at.kept.whole;
    stored = at.kept.stored_is;
  }
