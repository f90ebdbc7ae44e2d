-- What an append writes to a log's file.
use Rattle.std.proofs.Common.{◌≡◌, ℕ, ◌+◌, ◌<◌, ◌≤◌, ◌^◌, Bool, true, List, [], ◌++◌, length, take, get_or, Option, Some, None, Ok, ap, sym, ◌∙◌, subst, arith}
use Rattle.std.proofs.lemmas.List.{length-append, take_all}
use Rattle.sha2.specs.Sha256.{sha256}
use Rattle.ark_base.specs.Laws.Steps.{done_injective}
use Rattle.ark_base.specs.Outcome.{Outcome}
use Rattle.ark_base.specs.declared.error.Error.{Error}
use Rattle.ark_paths.specs.Pair.{Digest}
use Rattle.ark_trees.specs.Rfc6962.{node_of}
use Rattle.merkle_log.specs.Asked.{IsPeak}
use Rattle.merkle_log.specs.Kept.{stored_front, Keeps}
use Rattle.merkle_log.specs.Log.{merkle_tree_hash}
use Rattle.merkle_log.specs.Stored.{position}
use Rattle.log_file.specs.Append.{HasBehind}
use Rattle.log_file.specs.LogFile.{slot_to_take, stored_in, IsLogFile}
use Rattle.log_store.specs.Overlay.{overlay}
use Rattle.log_store.specs.Store.{IsGrowth}
use Rattle.log_store.proofs.Reading.{whole-front, whole-keeps}

abbrev done : Digest → Outcome Digest
done top = Ok top

-- two roots of one list
pub roots-same : {outcome : Outcome Digest} (a b : Digest) → outcome ≡ done a → outcome ≡ done b → a ≡ b
roots-same a b one two = done_injective {E = Error} a b (sym one ∙ two)

abbrev bool_in : Option Bool → Bool
bool_in None = true
bool_in (Some b) = b

-- No slot fits the root of a log: the file is none of it.
pub none-states : {leaves : List Digest} {file : List ℕ} {size : ℕ} {root : Digest} (log : IsLogFile leaves file)
    → length leaves ≡ size → merkle_tree_hash node_of (sha256 []) leaves ≡ done root
    → slot_to_take file size root ≡ None → ⊥
none-states {leaves} {file} {size} {root} log count root_is none =
    let tops = roots-same log.root root log.root_is root_is in
    let no = sym none ∙ sym (ap (λ n. slot_to_take file n log.root) count ∙ ap (λ top. slot_to_take file size top) tops)
    ∙ log.states in
    absurd (cc)

-- the root of all leaves
pub top-of : (leaves : List Digest) (size : ℕ) {root : Digest} → length leaves ≡ size
    → merkle_tree_hash node_of (sha256 []) (take size leaves) ≡ done root
    → merkle_tree_hash node_of (sha256 []) leaves ≡ done root
top-of leaves size count is =
    ap (merkle_tree_hash node_of (sha256 [])) (sym (take_all size leaves (omega (arith, count)))) ∙ is

-- Of a log whose peaks were read it is its growth.
pub record IsMade (leaves more : List Digest) (file bytes : List ℕ) (new : ℕ) (second : Bool) : Type 0 where
  pub growth : IsGrowth leaves more file bytes second
  pub sum : new ≡ length (leaves ++ more)

module _ {leaves : List Digest} {file : List ℕ} {size : ℕ} {root : Digest} {second : Bool} (log : IsLogFile leaves file)
    (count : length leaves ≡ size) (root_is : merkle_tree_hash node_of (sha256 []) leaves ≡ done root)
    (states : slot_to_take file size root ≡ Some second) where
  -- the slot that is free
  pub free-same : log.second_is_free ≡ second
  free-same =
      let tops = roots-same log.root root log.root_is root_is in
      ap bool_in (sym log.states ∙ ap (λ n. slot_to_take file n log.root) count
      ∙ ap (λ top. slot_to_take file size top) tops ∙ states)

  pub made-of : (more peaks : List Digest) {bytes : List ℕ} {new : ℕ} → ((level place : ℕ) → IsPeak size level place
      → get_or peaks level [] ≡ get_or (stored_in size file) (position level place) [])
      → ((l : List Digest) → length l ≡ size → Keeps l (overlay size peaks (stored_in size file)).digests
      → HasBehind l (stored_front (overlay size peaks (stored_in size file))) more bytes)
      → new ≡ size + length more → new < 2 ^ 63 → 0 < length more → IsMade leaves more file bytes new second
  made-of more peaks {bytes} {new} own behind sum fits some =
      let all : length (leaves ++ more) ≡ new = length-append leaves more ∙ ap (λ n. n + length more) count ∙ sym sum in
      let le : size ≤ length leaves = omega (arith, count) in
      let keeps = whole-keeps {leaves = leaves} file size peaks log.keeps le own (sym count) in
      let front = whole-front {leaves = leaves} file size peaks log.keeps le own
      ∙ ap (λ n. stored_in n file) (sym count) in
      record {
        growth = record {
          log = log;
          free = free-same;
          behind = subst (λ l. HasBehind leaves l more bytes) front (behind leaves count keeps);
          fits = omega (arith, all, fits);
          some = some;
        };
        sum = sym all;
      }
