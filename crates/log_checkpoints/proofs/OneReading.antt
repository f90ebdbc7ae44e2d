-- A receipt has one reading, and so one verdict.
use Rattle.std.proofs.Common.{◌≡◌, ◌<◌, ◌^◌, ℕ, List, [], ◌∷◌, ◌++◌, length, drop, codes, Option, Some, None, IfSome, Ok, true, false, refl, inl, inr, ap, ap₂, sym, subst, ◌∙◌, append_assoc, arith}
use Rattle.std.proofs.lemmas.Bool.{cases_lt, false≢true, le-ltb}
use Rattle.std.specs.Fmt.{decimal}
use Rattle.std.specs.List.{AllByRecursion}
use Rattle.base64.specs.Engines.{standard}
use Rattle.base64.specs.GeneralPurpose.{decode_of, encode_of, IsBytes}
use Rattle.base64.proofs.EngineFacts.{decode_of-encode_of, encode_of-nil}
use Rattle.ark_base.specs.Digits.{AreBytes}
use Rattle.ark_base.specs.Laws.Steps.{done_injective}
use Rattle.ark_base.specs.declared.error.Error.{Error}
use Rattle.ark_paths.specs.Pair.{Digest}
use Rattle.ark_trees.specs.Rfc6962.{entry_hash, node_of}
use Rattle.decimals.specs.Decimals.{decimal_number}
use Rattle.merkle_log.specs.Verdict.{inclusion_verdict}
use Rattle.merkle_log.proofs.Verdicts.{inclusion-bound}
use Rattle.log_checkpoints.specs.Receipts.{extra_line, numbered, HasBadExtra, IsBehindExtra, IsPath, IsReceipt, IsReceiptOf, IsUnaccepted, LeadsElsewhere, ShowsEntry}
use Rattle.log_checkpoints.specs.declared.receipts.ReceiptFault.{ReceiptFault}
use Rattle.log_checkpoints.specs.declared.receipts.ReceiptFault.TheVariants.{Note}
use Rattle.log_checkpoints.proofs.ReceiptTexts.{index-line, lined, lined-cut, never-both, never-none, one-rest}
use Rattle.signed_notes.specs.Checkpoints.{CheckpointParts}
use Rattle.signed_notes.specs.Cutting.{cut}
use Rattle.signed_notes.specs.Opening.{IsOpened, Policy}
use Rattle.signed_notes.specs.declared.fault.Fault.TheVariants.{Memory}
use Rattle.signed_notes.proofs.CheckpointTexts.{number-read}
use Rattle.signed_notes.proofs.Cuts.{cut_parts}
use Rattle.signed_notes.proofs.Lacking.{lacks-base64}
use Rattle.signed_notes.proofs.Opened.{never-closed, one-checkpoint, one-value}
use Rattle.signed_notes.proofs.WrittenNotes.{cut-written}

pub one-some : {A : Type 0} (a b : A) (option : Option A) → option ≡ Some a → option ≡ Some b → a ≡ b
one-some a b option is too = let both = sym is ∙ too in cc

-- Base64 spells one list of bytes.
one-word : (a b : List ℕ) → IsBytes a → IsBytes b → encode_of standard a ≡ encode_of standard b → a ≡ b
one-word a b are too same =
    one-value a b (decode_of standard (encode_of standard a)) (decode_of-encode_of standard a refl are)
    (ap (decode_of standard) same ∙ decode_of-encode_of standard b refl too)

-- The line of a digest is not empty.
some-word : (digest : Digest) → AreBytes 32 digest → [] ≡ encode_of standard digest → ⊥
some-word digest are none =
    let empty = one-word [] digest (λ k. omega arith) are.1 (encode_of-nil standard ∙ none) in
    omega (arith, ap length empty, are.0)

one-path : (p q : List Digest) (m n : List ℕ) → AllByRecursion (AreBytes 32) p → AllByRecursion (AreBytes 32) q
    → lined p m ≡ lined q n → (p ≡ q) × (m ≡ n)
one-path [] [] m n are too same = (refl, ap (drop 1) same)
one-path [] (d ∷ q) m n are too same =
    let both = cut_parts [] m (encode_of standard d) (lined q n) (ap (cut 10) same ∙ lined-cut d q n) in
    absurd (some-word d too.0 both.0)
one-path (d ∷ p) [] m n are too same =
    let both = cut_parts [] n (encode_of standard d) (lined p m) (ap (cut 10) (sym same) ∙ lined-cut d p m) in
    absurd (some-word d are.0 both.0)
one-path (d ∷ p) (e ∷ q) m n are too same =
    let both = cut_parts (encode_of standard d) (lined p m) (encode_of standard e) (lined q n)
    (sym (lined-cut d p m) ∙ ap (cut 10) same ∙ lined-cut e q n) in
    let rest = one-path p q m n are.1 too.1 both.1 in
    (ap₂ (λ x xs. x ∷ xs) (one-word d e are.0.1 too.0.1 both.0) rest.0, rest.1)

-- A number, a path and a note have one reading.
pub one-numbered : (i j : ℕ) (p q : List Digest) (m n : List ℕ) → i < 2 ^ 64 → j < 2 ^ 64 → IsPath p → IsPath q
    → numbered i p m ≡ numbered j q n → (i ≡ j) × (p ≡ q) × (m ≡ n)
one-numbered i j p q m n fits too are those same =
    let both = cut_parts (decimal i) (lined p m) (decimal j) (lined q n)
    (sym (index-line i p m fits) ∙ ap (cut 10) same ∙ index-line j q n too) in
    let path = one-path p q m n are.1 those.1 both.1 in (
      one-some i j (decimal_number (decimal i)) (number-read i fits) (ap decimal_number both.0 ∙ number-read j too),
      path.0,
      path.1,
    )

-- What begins with a line of further bytes, or not as one, has one such line and one rest.
pub one-extra : (e f : Option (List ℕ)) (bytes rest behind : List ℕ) → IsBehindExtra e rest bytes → IfSome f IsBytes
    → bytes ≡ extra_line f ++ (codes "index " ++ behind) → (e ≡ f) × (rest ≡ codes "index " ++ behind)
one-extra None None bytes rest behind is are spelled = (refl, sym is.spelled ∙ spelled)
one-extra None (Some f) bytes rest behind is are spelled =
    let word = encode_of standard f ++ (10 ∷ []) in
    absurd (is.none refl (word ++ (codes "index " ++ behind))
    (spelled ∙ append_assoc (codes "extra ") word (codes "index " ++ behind)))
one-extra (Some e) None bytes rest behind is are spelled =
    let word = encode_of standard e ++ (10 ∷ []) in
    absurd (never-both (word ++ rest) behind
    (sym (append_assoc (codes "extra ") word rest) ∙ sym is.spelled ∙ spelled))
one-extra (Some e) (Some f) bytes rest behind is are spelled =
    let line = λ (word more : List ℕ). append_assoc (encode_of standard word) (10 ∷ []) more in
    let lines = one-rest (codes "extra ") (encode_of standard e ++ (10 ∷ rest))
    (encode_of standard f ++ (10 ∷ (codes "index " ++ behind)))
    (ap (λ l. codes "extra " ++ l) (sym (line e rest))
    ∙ sym (append_assoc (codes "extra ") (encode_of standard e ++ (10 ∷ [])) rest) ∙ sym is.spelled ∙ spelled
    ∙ append_assoc (codes "extra ") (encode_of standard f ++ (10 ∷ [])) (codes "index " ++ behind)
    ∙ ap (λ l. codes "extra " ++ l) (line f (codes "index " ++ behind))) in
    let both = cut_parts (encode_of standard e) rest (encode_of standard f) (codes "index " ++ behind)
    (sym (cut-written 10 (encode_of standard e) rest (lacks-base64 e)) ∙ ap (cut 10) lines
    ∙ cut-written 10 (encode_of standard f) (codes "index " ++ behind) (lacks-base64 f)) in
    (ap Some (one-word e f is.extra_is are both.0), both.1)

-- what stands behind the title of a receipt
pub untitled : (e : Option (List ℕ)) (i : ℕ) (p : List Digest) (m bytes rest : List ℕ) → IsReceipt e i p m bytes
    → bytes ≡ codes "c2sp.org/tlog-proof@v1\n" ++ rest → rest ≡ extra_line e ++ (codes "index " ++ numbered i p m)
untitled e i p m bytes rest is titled =
    one-rest (codes "c2sp.org/tlog-proof@v1\n") rest _ (sym titled ∙ is.spelled)

-- where the line of further bytes ends
pub extra-cut : (bytes behind extra rest : List ℕ) → bytes ≡ codes "extra " ++ behind
    → bytes ≡ extra_line (Some extra) ++ rest → cut 10 behind ≡ Some (encode_of standard extra, rest)
extra-cut bytes behind extra rest begins is =
    let word = encode_of standard extra in
    let line = one-rest (codes "extra ") behind (word ++ (10 ∷ rest)) (sym begins ∙ is
    ∙ append_assoc (codes "extra ") (word ++ (10 ∷ [])) rest
    ∙ ap (λ l. codes "extra " ++ l) (append_assoc word (10 ∷ []) rest)) in
    ap (cut 10) line ∙ cut-written 10 word rest (lacks-base64 extra)

-- No receipt has a bad line of further bytes behind its title.
pub never-bad : (bytes rest : List ℕ) → HasBadExtra rest → (e : Option (List ℕ)) (i : ℕ) (p : List Digest) (m : List ℕ)
    → IsReceipt e i p m bytes → bytes ≡ codes "c2sp.org/tlog-proof@v1\n" ++ rest → ⊥
never-bad bytes rest bad None i p m is titled =
    never-both bad.behind (numbered i p m) (sym bad.begins ∙ untitled None i p m bytes rest is titled)
never-bad bytes rest bad (Some e) i p m is titled =
    bad.bad e (codes "index " ++ numbered i p m) is.extra_is (untitled (Some e) i p m bytes rest is titled)

behind-extra : (e : Option (List ℕ)) (behind : List ℕ) → IfSome e IsBytes
    → IsBehindExtra e (codes "index " ++ behind) (extra_line e ++ (codes "index " ++ behind))
behind-extra None behind are = record {
  extra_is = are;
  spelled = refl;
  none = λ _ rest same. never-both rest behind (sym same);
}
behind-extra (Some e) behind are = record {
  extra_is = are;
  spelled = refl;
  none = λ other. absurd (never-none e other);
}

pub one-reading : (e f : Option (List ℕ)) (i j : ℕ) (p q : List Digest) (m n bytes : List ℕ)
    → IsReceipt e i p m bytes → IsReceipt f j q n bytes → (i ≡ j) × (p ≡ q) × (m ≡ n) × (e ≡ f)
one-reading e f i j p q m n bytes first second =
    let rest = extra_line e ++ (codes "index " ++ numbered i p m) in
    let extra = one-extra e f rest (codes "index " ++ numbered i p m) (numbered j q n)
    (behind-extra e (numbered i p m) first.extra_is) second.extra_is
    (untitled f j q n bytes rest second first.spelled) in
    let same = one-rest (codes "index ") (numbered i p m) (numbered j q n) extra.1 in
    let parts = one-numbered i j p q m n first.fits second.fits first.path_is second.path_is same in
    (parts.0, parts.1, parts.2, extra.0)

-- ---- what is shown

inside-of : (root : Digest) (size index : ℕ) (digest : Digest) (path : List Digest)
    → inclusion_verdict node_of root size index digest path ≡ Ok true → index < size
inside-of root size index digest path is = elim (cases_lt index size) [
  | inl inside ↦ inside
  | inr outside ↦ absurd (false≢true (done_injective {E = Error} false true (rw (le-ltb index size outside) at is)))
]

pub shows : (policy : Policy) (origin bytes entry : List ℕ) (index size : ℕ) (root : Digest)
    → IsReceiptOf policy origin bytes entry index size root → ShowsEntry bytes entry index size root
shows policy origin bytes entry index size root is = record {
  extra = is.extra;
  path = is.path;
  note = is.note;
  read = is.read;
  inside = inside-of root size index (entry_hash entry) is.path is.accepted;
  bound = inclusion-bound node_of root size index (entry_hash entry) is.path is.accepted;
}

-- ---- one verdict

module _ (policy : Policy) (origin bytes entry : List ℕ) where
  -- the parts of both, and the checkpoint
  one-stated : (note other : List ℕ) (a b : CheckpointParts) → note ≡ other → IsOpened policy origin note a
      → IsOpened policy origin other b → a ≡ b
  one-stated note other a b same first second =
      one-checkpoint policy origin other a b (subst (λ n. IsOpened policy origin n a) same first) second

  pub one-head : (index at size other : ℕ) (root another : Digest)
      → IsReceiptOf policy origin bytes entry index size root
      → IsReceiptOf policy origin bytes entry at other another
      → (at ≡ index) × (other ≡ size) × (another ≡ root)
  one-head index at size other root another first second =
      let parts = one-reading first.extra second.extra index at first.path second.path first.note second.note bytes
      first.read second.read in
      let stated = one-stated first.note second.note first.stated second.stated parts.2 first.opened second.opened in (
        sym parts.0,
        sym second.size_is ∙ sym (ap (λ (c : CheckpointParts). c.size) stated) ∙ first.size_is,
        sym second.root_is ∙ sym (ap (λ (c : CheckpointParts). c.root) stated) ∙ first.root_is,
      )

  pub never-elsewhere : (index size : ℕ) (root : Digest) → IsReceiptOf policy origin bytes entry index size root
      → LeadsElsewhere policy origin bytes entry → ⊥
  never-elsewhere index size root first second =
      let parts = one-reading first.extra second.extra index second.index first.path second.path first.note second.note
      bytes first.read second.read in
      let stated = one-stated first.note second.note first.stated second.stated parts.2 first.opened second.opened in
      let verdict = λ (r : Digest) (s i : ℕ) (p : List Digest). inclusion_verdict node_of r s i (entry_hash entry) p in
      let root-is : second.stated.root ≡ root = sym (ap (λ (c : CheckpointParts). c.root) stated) ∙ first.root_is in
      let size-is : second.stated.size ≡ size = sym (ap (λ (c : CheckpointParts). c.size) stated) ∙ first.size_is in
      let both = sym first.accepted ∙ ap (λ i. verdict root size i first.path) parts.0
      ∙ ap (λ p. verdict root size second.index p) parts.1
      ∙ ap (λ r. verdict r size second.index second.path) (sym root-is)
      ∙ ap (λ s. verdict second.stated.root s second.index second.path) (sym size-is) ∙ second.refused in
      absurd cc

  pub never-unaccepted : (index size : ℕ) (root : Digest) (why : ReceiptFault)
      → IsReceiptOf policy origin bytes entry index size root → IsUnaccepted policy origin bytes why → why ≡ Note Memory
  never-unaccepted index size root why first (inl (inl (spelling, none))) =
      absurd (none first.extra index first.path first.note first.read)
  never-unaccepted index size root why first (inl (inr memory)) = memory
  never-unaccepted index size root why first (inr second) =
      let parts = one-reading first.extra second.extra index second.index first.path second.path first.note second.note
      bytes first.read second.read in
      second.told ∙ ap Note (never-closed policy origin second.note first.stated second.fault
      (subst (λ n. IsOpened policy origin n first.stated) parts.2 first.opened) second.closed)
