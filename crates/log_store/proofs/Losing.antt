-- A log's file of which the sector of one slot is not read.
use Rattle.std.proofs.Common.{◌≡◌, ◌⊎◌, inl, inr, ⊎_elim, ℕ, true, false, List, ◌++◌, length, take, drop, get_or, refl, ap, sym, ◌∙◌, subst, append_assoc, arith}
use Rattle.std.specs.Prelude.{replicate}
use Rattle.std.proofs.lemmas.List.{drop-drop, drop-take, drop_at, length-append, take-take, take_at}
use Rattle.ark_paths.specs.Pair.{Digest}
use Rattle.log_file.specs.LogFile.{title, written, IsLogFile}
use Rattle.log_file.proofs.Files.{known}
use Rattle.log_file.proofs.Heads.{eq_bytes}
use Rattle.log_store.specs.Sectors.{laid, laid_head, part_at, sector_title, title_in}
use Rattle.log_store.specs.Store.{IsSettled, SaysLarger}
use Rattle.log_store.specs.declared.sectors.Layout.{Layout}
use Rattle.log_store.specs.declared.sectors.Layout.TheVariants.{Apart, FirstAlone, SecondAlone}
use Rattle.log_store.proofs.Laying.{length-head, length-part, length-title_in, title-cases}

abbrev zeros : List ℕ
zeros = replicate 32 0

-- The log's file before its second slot, and from there on.
module _ (file : List ℕ) where
  abbrev top : List ℕ
  top = title_in file

  abbrev first : List ℕ
  first = part_at 32 32 file

  abbrev second : List ℕ
  second = part_at 4128 32 file

  abbrev rest : List ℕ
  rest = drop 8192 file

  front-long : length (title_in file ++ part_at 32 32 file) ≡ 64
  front-long = omega (arith, length-append top first, length-title_in file, length-part 32 32 file)

  split : laid Apart file ≡ (title_in file ++ part_at 32 32 file) ++ (part_at 4128 32 file ++ drop 8192 file)
  split = ap (λ l. l ++ rest) (sym (append_assoc top first second)) ∙ append_assoc (top ++ first) second rest

  pub front : take 64 (laid Apart file) ≡ title_in file ++ part_at 32 32 file
  front = ap (take 64) split ∙ take_at (top ++ first) (second ++ rest) 64 front-long

  pub behind : drop 64 (laid Apart file) ≡ part_at 4128 32 file ++ drop 8192 file
  behind = ap (drop 64) split ∙ drop_at (top ++ first) (second ++ rest) 64 front-long

  digests : drop 96 (laid Apart file) ≡ drop 8192 file
  digests = drop_at (laid_head Apart file) rest 96 (length-head file)

  pub begin : take 32 (laid Apart file) ≡ title_in file
  begin = ap (take 32) (append_assoc top (first ++ second) rest)
      ∙ take_at top ((first ++ second) ++ rest) 32 (length-title_in file)

  -- Without a slot it is the file with zeros in its place.
  pub first-alone : laid FirstAlone file ≡ written (laid Apart file) 64 (replicate 32 0)
  first-alone = ap (λ l. l ++ rest) (sym (append_assoc top first zeros))
      ∙ ap (λ l. (l ++ zeros) ++ rest) (sym front) ∙ ap (λ l. (take 64 (laid Apart file) ++ zeros) ++ l) (sym digests)

  pub second-alone : title_in file ≡ title → laid SecondAlone file ≡ written (laid Apart file) 32 (replicate 32 0)
  second-alone is = ap (λ l. l ++ rest) (sym (append_assoc title zeros second))
      ∙ append_assoc (title ++ zeros) second rest
      ∙ ap (λ l. (l ++ zeros) ++ (second ++ rest)) (sym (begin ∙ is))
      ∙ ap (λ l. (take 32 (laid Apart file) ++ zeros) ++ l) (sym behind)

  -- The log's file begins with its title.
  pub log-title : (leaves : List Digest) → IsLogFile leaves (laid Apart file) → title_in file ≡ title
  log-title leaves log = sym begin ∙ eq_bytes (take 32 (laid Apart file)) title
      (known leaves (laid Apart file) log).head.begins

-- zeros are no title
pub untitled : replicate 32 0 ≡ title → ⊥
untitled is = absurd (omega (arith, ap (λ l. get_or l 0 0) is))

-- It begins so on the disk.
pub log-titled : (file : List ℕ) (leaves : List Digest) → IsLogFile leaves (laid Apart file)
    → part_at 0 32 file ≡ sector_title
log-titled file leaves log = ⊎_elim (λ there. there.begins)
    (λ none. absurd (untitled (sym none.0 ∙ log-title file leaves log))) (title-cases file)

-- Whichever of its sectors is read, it is the file of the log.
pub lost-slot : (leaves : List Digest) (layout : Layout) (file : List ℕ) → IsSettled leaves (laid Apart file)
    → (layout ≡ Apart) ⊎ (layout ≡ FirstAlone) ⊎ (layout ≡ SecondAlone)
    → IsLogFile leaves (laid layout file) ⊎ SaysLarger (length leaves) (length leaves) (laid layout file)
lost-slot leaves layout file settled (inl both) =
    inl (subst (λ l. IsLogFile leaves (laid l file)) (sym both) settled.log)
lost-slot leaves layout file settled (inr (inl one)) =
    let n = length leaves in
    subst (λ l. IsLogFile leaves (laid l file) ⊎ SaysLarger n n (laid l file)) (sym one)
    (subst (λ f. IsLogFile leaves f ⊎ SaysLarger n n f) (sym (first-alone file)) (settled.lost true zeros refl))
lost-slot leaves layout file settled (inr (inr one)) =
    let n = length leaves in
    subst (λ l. IsLogFile leaves (laid l file) ⊎ SaysLarger n n (laid l file)) (sym one)
    (subst (λ f. IsLogFile leaves f ⊎ SaysLarger n n f)
    (sym (second-alone file (log-title file leaves settled.log))) (settled.lost false zeros refl))

-- ---- what is read of the sectors

pub first-title : (bytes file : List ℕ) → bytes ≡ take 64 (drop 0 file) → take 32 bytes ≡ take 32 file
first-title bytes file is = ap (take 32) is ∙ take-take 32 64 (drop 0 file) (omega arith)

pub second-title : (bytes file : List ℕ) → bytes ≡ take 64 (drop 4096 file) → take 32 bytes ≡ take 32 (drop 4096 file)
second-title bytes file is = ap (take 32) is ∙ take-take 32 64 (drop 4096 file) (omega arith)

pub second-slot : (bytes file : List ℕ) → bytes ≡ take 64 (drop 4096 file) → drop 32 bytes ≡ take 32 (drop 4128 file)
second-slot bytes file is = ap (drop 32) is ∙ drop-take 32 32 (drop 4096 file) ∙ ap (take 32) (drop-drop 32 4096 file)

-- The two titles are different.
pub other-title : sector_title ≡ title → ⊥
other-title is = absurd (omega (arith, ap (λ l. get_or l 12 0) is))
