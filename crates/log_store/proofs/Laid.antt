-- A disk of a layout, as the disk of the log's file.
use Rattle.std.proofs.Common.{◌≡◌, inl, inr, ⊎_elim, ℕ, ◌+◌, ◌-◌, ◌≤◌, List, ◌++◌, length, take, drop, refl, ap, sym, ◌∙◌, subst, arith}
use Rattle.std.specs.Prelude.{replicate}
use Rattle.std.proofs.lemmas.List.{drop-append-le, drop-drop, drop_at, length-append, length-drop, length-replicate, take-append-le}
use Rattle.log_file.specs.LogFile.{title, written}
use Rattle.log_store.specs.Disk.{AreApart, Leaves, LeavesMore, Torn}
use Rattle.log_store.specs.Sectors.{laid, laid_head, part_at, title_in, HasSectors, IsFresh, IsSpread, LiesAt, Through}
use Rattle.log_store.specs.declared.sectors.Layout.{Layout}
use Rattle.log_store.specs.declared.sectors.Layout.TheVariants.{Apart, Dense, FirstAlone, SecondAlone}
use Rattle.log_store.proofs.Laying.{length-head, length-laid, length-part, length-title_in, place-cases}
use Rattle.log_store.proofs.LaidWrites.{apart-laid, there-laid, torn-laid, written-laid}

-- Where bytes of the log's file may be written, their place is no later than the end of the file.
pub inside-any : (layout : Layout) (at : ℕ) (bytes : List ℕ) (place : ℕ) (own file : List ℕ)
    → LiesAt layout at bytes place own → HasSectors layout file → at ≤ length (laid layout file) → place ≤ length file
inside-any Dense at bytes place own file lies long inside = omega (arith, lies.0, inside)
inside-any Apart at bytes place own file lies long inside = ⊎_elim
    (λ low. omega (arith, lies.place_is, low.0, low.1, long))
    (⊎_elim (λ mid. omega (arith, lies.place_is, mid.1, mid.2, long))
    (λ high. omega (arith, lies.place_is, high.1, long, inside, length-laid file))) (place-cases at)
inside-any FirstAlone at bytes place own file lies long inside = absurd lies
inside-any SecondAlone at bytes place own file lies long inside = absurd lies

pub torn-any : (layout : Layout) (at : ℕ) (bytes : List ℕ) (place : ℕ) (own old new : List ℕ)
    → LiesAt layout at bytes place own → Torn place own old new → Torn at bytes (laid layout old) (laid layout new)
torn-any Dense at bytes place own old new lies torn =
    subst (λ p. Torn p bytes old new) lies.0 (subst (λ l. Torn place l old new) lies.1 torn)
torn-any Apart at bytes place own old new lies torn = torn-laid at bytes place own old new lies torn
torn-any FirstAlone at bytes place own old new lies torn = absurd lies
torn-any SecondAlone at bytes place own old new lies torn = absurd lies

pub there-any : (layout : Layout) (at : ℕ) (bytes : List ℕ) (place : ℕ) (own file : List ℕ)
    → LiesAt layout at bytes place own → take (length own) (drop place file) ≡ own
    → take (length bytes) (drop at (laid layout file)) ≡ bytes
there-any Dense at bytes place own file lies is =
    subst (λ p. take (length bytes) (drop p file) ≡ bytes) lies.0
    (subst (λ l. take (length l) (drop place file) ≡ l) lies.1 is)
there-any Apart at bytes place own file lies is = there-laid at bytes place own file lies is
there-any FirstAlone at bytes place own file lies is = absurd lies
there-any SecondAlone at bytes place own file lies is = absurd lies

pub written-any : (layout : Layout) (at : ℕ) (bytes : List ℕ) (place : ℕ) (own old new : List ℕ)
    → LiesAt layout at bytes place own → place ≤ length old → Torn place own old new → new ≡ written old place own
    → laid layout new ≡ written (laid layout old) at bytes
written-any Dense at bytes place own old new lies inside torn is =
    subst (λ p. new ≡ written old p bytes) lies.0 (subst (λ l. new ≡ written old place l) lies.1 is)
written-any Apart at bytes place own old new lies inside torn is =
    written-laid at bytes place own old new lies inside torn is
written-any FirstAlone at bytes place own old new lies inside torn is = absurd lies
written-any SecondAlone at bytes place own old new lies inside torn is = absurd lies

pub apart-any : (layout : Layout) (at : ℕ) (bytes : List ℕ) (place : ℕ) (own : List ℕ) (to : ℕ) (more : List ℕ)
    (spot : ℕ) (its : List ℕ) → LiesAt layout at bytes place own → LiesAt layout to more spot its
    → AreApart at (length bytes) to (length more) → AreApart place (length own) spot (length its)
apart-any Dense at bytes place own to more spot its lies lies_more apart = ⊎_elim
    (λ le. inl (omega (arith, le, lies.0, lies_more.0, ap length lies.1)))
    (λ ge. inr (omega (arith, ge, lies.0, lies_more.0, ap length lies_more.1))) apart
apart-any Apart at bytes place own to more spot its lies lies_more apart =
    apart-laid at bytes place own to more spot its lies lies_more apart
apart-any FirstAlone at bytes place own to more spot its lies lies_more apart = absurd lies
apart-any SecondAlone at bytes place own to more spot its lies lies_more apart = absurd lies

-- ---- what a crash leaves

-- A step on the file is one on the log's file.
pub crash-any : (layout : Layout) (at : ℕ) (bytes : List ℕ) (place : ℕ) (own : List ℕ)
    (old new : List ℕ → Type 0) → LiesAt layout at bytes place own → LeavesMore (Torn place own) old new
    → LeavesMore (Torn at bytes) (Through layout old) (Through layout new)
crash-any layout at bytes place own old new lies crash left now =
    let from = crash now.0 now.1 in (
      laid layout from.0,
      (from.0, from.1, refl),
      subst (Torn at bytes (laid layout from.0)) (sym now.2) (torn-any layout at bytes place own from.0 now.0 lies
          from.2),
    )

-- What is fresh is durable behind a sync.
pub durable-any : (layout : Layout) (at : ℕ) (bytes : List ℕ) (fresh : ℕ → List ℕ → Type 0)
    (may_leave : List ℕ → Type 0)
    → IsFresh layout fresh at bytes
    → ((place : ℕ) (own : List ℕ) → fresh place own → Leaves place own may_leave)
    → Leaves at bytes (Through layout may_leave)
durable-any layout at bytes fresh may_leave is durable left now =
    subst (λ f. take (length bytes) (drop at f) ≡ bytes) (sym now.2)
    (there-any layout at bytes is.0 is.1 now.0 is.2 (durable is.0 is.1 is.3 now.0 now.1))

-- ---- what is read

zeros-long : length (replicate {A = ℕ} 32 0) ≡ 32
zeros-long = length-replicate {A = ℕ} 32 0

pub head-long : (layout : Layout) (file : List ℕ) → IsSpread layout → length (laid_head layout file) ≡ 96
head-long Dense file spread = absurd spread
head-long Apart file spread = length-head file
head-long FirstAlone file spread = omega (
  arith,
  length-append (title_in file) (part_at 32 32 file ++ replicate 32 0),
  length-append (part_at 32 32 file) (replicate 32 0),
  length-title_in file,
  length-part 32 32 file,
  zeros-long,
)
head-long SecondAlone file spread = omega (
  arith,
  length-append title (replicate 32 0 ++ part_at 4128 32 file),
  length-append (replicate 32 0) (part_at 4128 32 file),
  length-part 4128 32 file,
  zeros-long,
)

pub laid-is : (layout : Layout) (file : List ℕ) → IsSpread layout
    → laid layout file ≡ laid_head layout file ++ drop 8192 file
laid-is Dense file spread = absurd spread
laid-is Apart file spread = refl
laid-is FirstAlone file spread = refl
laid-is SecondAlone file spread = refl

pub laid-long : (layout : Layout) (file : List ℕ) → IsSpread layout
    → length (laid layout file) ≡ 96 + (length file - 8192)
laid-long layout file spread = omega (
  arith,
  ap length (laid-is layout file spread),
  length-append (laid_head layout file) (drop 8192 file),
  head-long layout file spread,
  length-drop 8192 file,
)

-- the digests
pub laid-behind : (layout : Layout) (file : List ℕ) (k : ℕ) → IsSpread layout
    → drop (96 + k) (laid layout file) ≡ drop k (drop 8192 file)
laid-behind layout file k spread = sym (drop-drop k 96 (laid layout file)) ∙ ap (drop k)
    (ap (drop 96) (laid-is layout file spread)
    ∙ drop_at (laid_head layout file) (drop 8192 file) 96 (head-long layout file spread))

-- a piece of the head
pub laid-front : (layout : Layout) (file : List ℕ) (at n : ℕ) → IsSpread layout → at + n ≤ 96
    → take n (drop at (laid layout file)) ≡ take n (drop at (laid_head layout file))
laid-front layout file at n spread low =
    let head = laid_head layout file in
    let long = head-long layout file spread in
    ap (λ f. take n (drop at f)) (laid-is layout file spread)
    ∙ ap (take n) (drop-append-le at head (drop 8192 file) (omega (arith, low, long)))
    ∙ take-append-le n (drop at head) (drop 8192 file) (omega (arith, low, long, length-drop at head))
