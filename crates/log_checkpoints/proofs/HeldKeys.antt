-- Checkpoints that two policies accept whose quorums meet.
use Rattle.std.proofs.Common.{◌≡◌, ◌≤◌, ℕ, true, List, All, Contains, subst, ap}
use Rattle.std.proofs.lemmas.List.Elements.{All-contains_itself, All-filter, filter_passes}
use Rattle.std.proofs.lemmas.List.Folds.{Any-from_list_any}
use Rattle.std.specs.List.{list_any}
use Rattle.log_checkpoints.specs.KeyQuorums.{IsHonest, IsQuorum, QuorumsMeet}
use Rattle.log_checkpoints.specs.Witnessing.{head_of}
use Rattle.log_tiles.proofs.Sized.{smaller-first}
use Rattle.log_tiles.specs.Ways.{IsBefore}
use Rattle.signed_notes.proofs.Counted.{all-once, once-apart, one-parts}
use Rattle.signed_notes.specs.Checkpoints.{CheckpointParts}
use Rattle.signed_notes.specs.Counting.{lists_key, is_one_key, keys_once, named_keys}
use Rattle.signed_notes.specs.Keys.{KeyParts}
use Rattle.signed_notes.specs.Notes.{NoteParts, SignatureParts}
use Rattle.signed_notes.specs.Opening.{note_since, IsOpened, Policy}
use Rattle.signed_notes.specs.Verifying.{is_named, IsMadeBy, IsTrueOf}

-- the keys that signed a note, from the policy's time on
abbrev pub signers : Policy → NoteParts → List KeyParts
signers p note = keys_once (named_keys p.witnesses (note_since p.since note).signatures)

signers-own : (p : Policy) (note : NoteParts) → All (Contains p.witnesses) (signers p note)
signers-own p note =
    let signatures = (note_since p.since note).signatures in
    let named = λ (key : KeyParts). list_any (is_named key) signatures in
    all-once (Contains p.witnesses) (named_keys p.witnesses signatures)
    (All-filter named (Contains p.witnesses) p.witnesses (All-contains_itself p.witnesses))

signers-named : (p : Policy) (note : NoteParts)
    → All (λ key. list_any (is_named key) (note_since p.since note).signatures ≡ true) (signers p note)
signers-named p note =
    let signatures = (note_since p.since note).signatures in
    let named = λ (key : KeyParts). list_any (is_named key) signatures in
    all-once (λ key. named key ≡ true) (named_keys p.witnesses signatures) (filter_passes named p.witnesses)

-- The keys that signed are a quorum.
pub quorum-of : (p : Policy) (origin bytes : List ℕ) (c : CheckpointParts) (is : IsOpened p origin bytes c)
    → IsQuorum p (signers p is.note)
quorum-of p origin bytes c is = record {
  apart = once-apart (named_keys p.witnesses (note_since p.since is.note).signatures);
  own = signers-own p is.note;
  enough = is.signed.enough;
}

-- A signature by a key is one by each that is the same key.
made-by : (a b : KeyParts) (text : List ℕ) (s : SignatureParts) → is_one_key a b ≡ true → IsMadeBy a text s
    → IsMadeBy b text s
made-by a b text s same made =
    let parts = one-parts a b same in
    subst (λ (key : KeyParts). IsMadeBy key text s)
    (ap (λ (bytes : List ℕ). record { name = a.name; algorithm = b.algorithm; bytes = bytes }) parts.1)
    (subst (λ (n : ℕ). IsMadeBy (record { name = a.name; algorithm = n; bytes = a.bytes }) text s) parts.0 made)

-- What a key signed that is one of those that are counted is a head of its history.
pub signed-head : (p : Policy) (origin bytes : List ℕ) (c : CheckpointParts) (is : IsOpened p origin bytes c)
    (key : KeyParts) (honest : IsHonest origin key) → lists_key (signers p is.note) key ≡ true
    → Contains honest.heads (head_of c)
signed-head p origin bytes c is key honest there =
    let keys = signers p is.note in
    let note = note_since p.since is.note in
    let found = Any-from_list_any (λ one. is_one_key one key) keys there in
    let one = found.1 in
    let named = subst (λ k. list_any (is_named k) note.signatures ≡ true) found.3
    (signers-named p is.note found.0 one found.2) in
    let listed = subst (Contains p.witnesses) found.3 (signers-own p is.note found.0 one found.2) in
    let trues = is.signed.witnesses_true listed.0 one listed.1 in
    let own = subst (λ k. All (IsTrueOf k note.text) note.signatures) listed.2 trues in
    let line = Any-from_list_any (is_named one) note.signatures named in
    let made = subst (λ s. IsTrueOf one note.text s) line.3 (own line.0 line.1 line.2) line.4 in
    honest.only is.note.text line.1 c (made-by one key is.note.text line.1 found.4 made) is.checkpoint

pub held-together : (origin : List ℕ) (p q : Policy) (first second : List ℕ) (a b : CheckpointParts)
    → QuorumsMeet origin p q → IsOpened p origin first a → IsOpened q origin second b → a.size ≤ b.size
    → IsBefore (head_of a) (head_of b)
held-together origin p q first second a b meet one two less =
    let met = meet (signers p one.note) (signers q two.note) (quorum-of p origin first a one)
    (quorum-of q origin second b two) in
    smaller-first met.1.heads (head_of a) (head_of b) met.1.accepted
    (signed-head p origin first a one met.0 met.1 met.2) (signed-head q origin second b two met.0 met.1 met.3) less
