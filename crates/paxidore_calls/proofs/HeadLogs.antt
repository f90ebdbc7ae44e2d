-- A log's file, as its head and what stands behind it.
use Rattle.std.proofs.Common.{◌≡◌, ℕ, ◌+◌, ◌-◌, ◌/◌, ◌^◌, ◌<◌, ◌≤◌, Bool, List, ◌++◌, length, take, drop, Some, None, Ok, Err, refl, ap, sym, ◌∙◌, arith}
use Rattle.std.specs.Prelude.{replicate}
use Rattle.std.proofs.Math.Bool.{and-false}
use Rattle.std.proofs.lemmas.Bool.{le-ltb, lt-ltb}
use Rattle.std.proofs.lemmas.List.{drop-append-le, length-append, length-drop, take-append-le}
use Rattle.merkle_log.specs.Stored.{stored_count}
use Rattle.log_file.specs.Faults.{log_size, no_head, size_with}
use Rattle.log_file.specs.LogFile.{file_head, title}
use Rattle.log_file.specs.declared.fault.Fault.TheVariants.{Short}
use Rattle.log_file.proofs.Files.{front-whole}
use Rattle.log_store.specs.Sectors.{layout_in, part_at, title_in}
use Rattle.log_store.specs.declared.sectors.Layout.TheVariants.{Apart, Dense, SecondAlone}
use Rattle.log_store.proofs.Laying.{part-whole, titled}
use Rattle.paxidore_calls.specs.Layouts.{log_in}
use Rattle.paxidore_calls.proofs.Layouts.{log-of, sectored}

module _ (head rest : List ℕ) (long : length head ≡ 96) where
  whole-long : length (head ++ rest) ≡ 96 + length rest
  whole-long = omega (arith, long, length-append head rest)

  slot-of : (at : ℕ) → at + 32 ≤ 96 → take 32 (drop at (head ++ rest)) ≡ take 32 (drop at head)
  slot-of at inside = ap (take 32) (drop-append-le at head rest (omega (arith, inside, long)))
      ∙ take-append-le 32 (drop at head) rest (omega (arith, inside, long, length-drop at head))

  -- The head says the size, and why there is none.
  head-size : log_size (head ++ rest) ≡ size_with (no_head head) (file_head head) (length rest / 32)
  head-size =
      let count : (length (head ++ rest) - 96) / 32 ≡ length rest / 32 =
      ap (λ n. n / 32) (omega (arith, whole-long)) in
      rw (
        le-ltb (length (head ++ rest)) 96 (omega (arith, whole-long)),
        le-ltb (length head) 96 (omega (arith, long)),
        take-append-le 32 head rest (omega (arith, long)),
        slot-of 32 (omega arith),
        slot-of 64 (omega arith),
        count,
      ) refl

  pub size-none : file_head head ≡ None → log_size (head ++ rest) ≡ Err (no_head head)
  size-none is = head-size ∙ ap (λ found. size_with (no_head head) found (length rest / 32)) is

  module _ (size : ℕ) (second : Bool) (is : file_head head ≡ Some (size, second)) where
    size-by : log_size (head ++ rest) ≡ size_with (no_head head) (Some (size, second)) (length rest / 32)
    size-by = head-size ∙ ap (λ found. size_with (no_head head) found (length rest / 32)) is

    pub size-some : size < 2 ^ 63 → stored_count size ≤ length rest / 32 → log_size (head ++ rest) ≡ Ok size
    size-some fits enough = size-by ∙ rw (front-whole size (length rest / 32) fits enough) refl

    pub size-large : 2 ^ 63 ≤ size → log_size (head ++ rest) ≡ Err Short
    size-large large = size-by ∙ rw (le-ltb size (2 ^ 63) large) refl

    pub size-short : length rest / 32 < stored_count size → log_size (head ++ rest) ≡ Err Short
    size-short few = size-by ∙ rw (lt-ltb (length rest / 32) (stored_count size) few, and-false) refl

-- ---- how a file lies

pub log-dense : (file : List ℕ) → layout_in file ≡ Dense → file ≡ log_in file
log-dense file is = log-of Dense file (sym is)

module _ (file second : List ℕ) (inside : 8192 ≤ length file) (two : second ≡ take 32 (drop 4128 file)) where
  slot-two : second ≡ part_at 4128 32 file
  slot-two = two ∙ sym (part-whole 4128 32 file (omega (arith, inside)))

  pub head-apart : (first head : List ℕ) → layout_in file ≡ Apart → first ≡ take 32 (drop 32 file)
      → head ≡ title ++ (first ++ second) → head ++ drop 8192 file ≡ log_in file
  head-apart first head is one put =
      let top : title_in file ≡ title =
      titled file (part-whole 0 32 file (omega (arith, inside)) ∙ (sectored file is).begins) in
      let slot : first ≡ part_at 32 32 file = one ∙ sym (part-whole 32 32 file (omega (arith, inside))) in
      ap (λ h. h ++ drop 8192 file) (put ∙ ap (λ l. title ++ (l ++ second)) slot
      ∙ ap (λ l. title ++ (part_at 32 32 file ++ l)) slot-two
      ∙ ap (λ l. l ++ (part_at 32 32 file ++ part_at 4128 32 file)) (sym top)) ∙ log-of Apart file (sym is)

  pub head-second : (head : List ℕ) → layout_in file ≡ SecondAlone
      → head ≡ title ++ (replicate 32 0 ++ second) → head ++ drop 8192 file ≡ log_in file
  head-second head is put =
      ap (λ h. h ++ drop 8192 file) (put ∙ ap (λ l. title ++ (replicate 32 0 ++ l)) slot-two)
      ∙ log-of SecondAlone file (sym is)
