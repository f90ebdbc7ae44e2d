-- The log of a list that a request is of.
use Rattle.std.proofs.Common.{zero, suc, ◌≡◌, ◌<◌, ℕ, Bool, true, false, List, [], ◌∷◌, Contains, length, get_or, Some, None, refl, inl, inr, ap, sym, ◌∙◌, ⊎_elim, arith}
use Rattle.std.proofs.lemmas.Slice.Eq.{bytes_eq-Decides}
use Rattle.std.specs.Str.{bytes_eq}
use Rattle.ark_paths.specs.Pair.{Digest}
use Rattle.log_checkpoints.specs.Adding.{old_title, unsigned_in, IsAdding, IsOfNoLog, IsOfOrigin, IsRejectedNote, NeverUnknown}
use Rattle.log_checkpoints.specs.Receipts.{numbered}
use Rattle.log_checkpoints.specs.Witnessing.{WitnessParts}
use Rattle.log_checkpoints.specs.declared.adding.Denial.TheVariants.{UnknownOrigin}
use Rattle.log_checkpoints.specs.declared.adding.Unprepared.TheVariants.{Rejected}
use Rattle.log_checkpoints.proofs.OneReading.{one-numbered, one-some}
use Rattle.log_checkpoints.proofs.ReceiptTexts.{never-none, one-rest}
use Rattle.signed_notes.specs.Checkpoints.{CheckpointParts}
use Rattle.signed_notes.specs.LogLists.{log_of_origin, ListedParts}
use Rattle.signed_notes.proofs.Opened.{one-value}

-- ---- a list

-- The first log of an origin is one of the list, and has the origin.
pub found-listed : (logs : List ListedParts) (origin : List ℕ) (log : ListedParts)
    → log_of_origin logs origin ≡ Some log → Contains logs log × (log.origin ≡ origin)
found-listed [] origin log is = absurd (never-none log (sym is))
found-listed (one ∷ more) origin log is =
    by_test (bytes_eq one.origin origin) refl (found-listed more origin log)
  where
    by_test : (t : Bool) → bytes_eq one.origin origin ≡ t
        → (log_of_origin more origin ≡ Some log → Contains more log × (log.origin ≡ origin))
        → Contains (one ∷ more) log × (log.origin ≡ origin)
    by_test true e next =
        let own : Some one ≡ Some log = rw e at is in
        let same = one-some log one (Some log) refl (sym own) in
        ((0, omega arith, sym same), ap (λ (l : ListedParts). l.origin) same ∙ (bytes_eq-Decides one.origin origin).0 e)
    by_test false e next =
        let rest = next (rw e at is) in ((suc rest.0.0, omega (arith, rest.0.1), rest.0.2), rest.1)

-- No log of the list has an origin of which there is none.
pub none-listed : (logs : List ListedParts) (origin : List ℕ) → log_of_origin logs origin ≡ None
    → (log : ListedParts) (at : ℕ) → at < length logs → get_or logs at log ≡ log → log.origin ≡ origin → ⊥
none-listed [] origin none log at inside is same = absurd (omega (arith, inside))
none-listed (one ∷ more) origin none log at inside is same =
    by_test (bytes_eq one.origin origin) refl (λ none at inside is. none-listed more origin none log at inside is same)
  where
    behind : bytes_eq one.origin origin ≡ false
        → (log_of_origin more origin ≡ None → (k : ℕ) → k < length more → get_or more k log ≡ log → ⊥)
        → (k : ℕ) → k < length (one ∷ more) → get_or (one ∷ more) k log ≡ log → ⊥
    behind e rest zero inside is =
        let own = (bytes_eq-Decides one.origin origin).1 (ap (λ (l : ListedParts). l.origin) is ∙ same) in
        let both = sym own ∙ e in
        absurd cc
    behind e rest (suc k) inside is = rest (rw e at none) k (omega (arith, inside)) is

    by_test : (t : Bool) → bytes_eq one.origin origin ≡ t
        → (log_of_origin more origin ≡ None → (k : ℕ) → k < length more → get_or more k log ≡ log → ⊥) → ⊥
    by_test true e rest = never-none one (rw e at none)
    by_test false e rest = behind e rest at inside is

-- ---- a request

one-request : (i j : ℕ) (p q : List Digest) (m n request : List ℕ) → IsAdding i p m request → IsAdding j q n request
    → m ≡ n
one-request i j p q m n request first second =
    let same = one-rest old_title (numbered i p m) (numbered j q n) (sym first.spelled ∙ second.spelled) in
    (one-numbered i j p q m n first.fits second.fits first.path_is second.path_is same).2

never-told : (origin request : List ℕ) (of : IsOfOrigin origin request) (w : WitnessParts) (old : ℕ) (note : List ℕ)
    → of.note ≡ note → w.origin ≡ origin → IsRejectedNote w old note UnknownOrigin → ⊥
never-told origin request of w old note same own (stated, states, other) =
    let one = one-value of.stated stated (unsigned_in of.note) of.states (ap unsigned_in same ∙ states) in
    other (ap (λ (c : CheckpointParts). c.origin) (sym one) ∙ of.origin_is ∙ sym own)

pub never-unknown : (origin request : List ℕ) → IsOfOrigin origin request → NeverUnknown origin request
never-unknown origin request of w held own (inl (other, none)) = absurd cc
never-unknown origin request of w held own (inr denied) =
    let same = one-request of.old denied.old of.path denied.path of.note denied.note request of.read denied.read in
    ⊎_elim (never-told origin request of w denied.old denied.note same own) (λ other. other.2) denied.told

pub of-none : (logs : List ListedParts) (origin request : List ℕ) → IsOfOrigin origin request
    → log_of_origin logs origin ≡ None → IsOfNoLog logs request (Rejected UnknownOrigin)
of-none logs origin request of none = λ log w held there same. inr (record {
  old = of.old;
  path = of.path;
  note = of.note;
  read = of.read;
  told = inl (
    of.stated,
    of.states,
    λ is. none-listed logs origin none log there.0 there.1 there.2
        (sym same ∙ sym is ∙ of.origin_is),
  );
})
