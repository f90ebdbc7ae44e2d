-- How a session over lines goes on.
use Rattle.std.proofs.Common.{◌≡◌, ℕ, zero, suc, ◌<◌, List, [], ◌∷◌, ◌++◌, length, take, drop, ◌+◌, Option, Some, None, Result, Ok, Err, refl, sym, ◌∙◌, ap, arith, append_assoc, append-nil, length-append, inl, inr, IfSome}
use Rattle.std.specs.Prelude.{◌^◌, ◌-◌, OnOk, OnErr}
use Rattle.std.specs.List.{flat_map}
use Rattle.std.specs.Io.KnownBytes.{Appends, Keeps, IsAtEnd, Consumes}
use Rattle.std.specs.Io.BufRead.{take_through, drop_through, strip_last, DropsThrough}
use Rattle.std.proofs.lemmas.List.{flat_map_more}
use Rattle.std.proofs.Math.Seq.{take-add}
use Rattle.acp_run.specs.Lines.{whole_lines_of, with_line_feed}
use Rattle.acp_run.specs.Sessions.{Session, ServesFrom, StopsFrom, HaltsFrom, AppendsFront, LosesFront}
use Rattle.acp_run.proofs.FirstLine.{lines_of-cons}

-- ---- what a writer holds

appends_none : (w : Option (List ℕ)) → Appends w w []
appends_none None = tt
appends_none (Some xs) = sym (append-nil xs)

pub appends_both : (a b c : Option (List ℕ)) (x y : List ℕ) → Appends a b x → Appends b c y → Appends a c (x ++ y)
appends_both None b c x y h k = tt
appends_both (Some xs) None c x y h k = absurd h
appends_both (Some xs) (Some ys) None x y h k = absurd k
appends_both (Some xs) (Some ys) (Some zs) x y h k = k ∙ ap (λ s. s ++ y) h ∙ append_assoc xs x y

keeps-appends : (a b : Option (List ℕ)) → Keeps a b → Appends a b []
keeps-appends None b k = tt
keeps-appends (Some xs) None k = absurd k
keeps-appends (Some xs) (Some ys) k = k ∙ sym (append-nil xs)

pub appends_kept : (a b c : Option (List ℕ)) (x : List ℕ) → Appends a b x → Keeps b c → Appends a c x
appends_kept a b c x h k = let all : Appends a c (x ++ []) = appends_both a b c x [] h (keeps-appends b c k) in
    rw append-nil at all

pub kept_then : (a b c : Option (List ℕ)) (x : List ℕ) → Keeps a b → Appends b c x → Appends a c x
kept_then a b c x k h = appends_both a b c [] x (keeps-appends a b k) h

-- more of the bytes, where some are written
pub appends_more : (a b c : Option (List ℕ)) (bytes : List ℕ) (n more : ℕ) → Appends a b (take n bytes)
    → Appends b c (take more (drop n bytes)) → Appends a c (take (n + more) bytes)
appends_more a b c bytes n more h k = rw (take-add n more bytes) (appends_both a b c (take n bytes)
    (take more (drop n bytes)) h k)

pub keeps_self : (w : Option (List ℕ)) → Keeps w w
keeps_self None = tt
keeps_self (Some xs) = refl

pub keeps_both : (a b c : Option (List ℕ)) → Keeps a b → Keeps b c → Keeps a c
keeps_both None b c h k = tt
keeps_both (Some xs) None c h k = absurd h
keeps_both (Some xs) (Some ys) None h k = absurd k
keeps_both (Some xs) (Some ys) (Some zs) h k = k ∙ h

-- ---- fronts of what is written

take-all : {A : Type 0} (xs ys : List A) → take (length xs) (xs ++ ys) ≡ xs
take-all [] ys = refl
take-all (x ∷ xs) ys = ap (λ s. x ∷ s) (take-all xs ys)

take-behind : (x y : List ℕ) (n : ℕ) → (m : ℕ) × (take m (x ++ y) ≡ x ++ take n y)
take-behind [] y n = (n, refl)
take-behind (b ∷ x) y n = let more = take-behind x y n in (suc more.0, ap (λ s. b ∷ s) more.1)

pub front_of_all : (a b : Option (List ℕ)) (x : List ℕ) → Appends a b x → AppendsFront a b x
front_of_all a b x h = (length x, rw (ap (take (length x)) (sym (append-nil x)) ∙ take-all x []) h)

-- the first, then a front of the second
pub front_behind : (a b c : Option (List ℕ)) (x y : List ℕ) → Appends a b x → AppendsFront b c y
    → AppendsFront a c (x ++ y)
front_behind a b c x y h front = let m =
    take-behind x y front.0 in (m.0, rw m.1 (appends_both a b c x (take front.0 y) h front.1))

take-within : (x y : List ℕ) (n : ℕ) → (m : ℕ) × (take m (x ++ y) ≡ take n x)
take-within [] y zero = (0, refl)
take-within [] y (suc n) = (0, refl)
take-within (b ∷ x) y zero = (0, refl)
take-within (b ∷ x) y (suc n) = let more = take-within x y n in (suc more.0, ap (λ s. b ∷ s) more.1)

-- a front of some bytes is one of longer ones
pub front_within : (a b : Option (List ℕ)) (x y : List ℕ) → AppendsFront a b x → AppendsFront a b (x ++ y)
front_within a b x y front = let m = take-within x y front.0 in (m.0, rw m.1 front.1)

-- nothing is a front of any bytes
pub front_of_none : (a b : Option (List ℕ)) (x : List ℕ) → Keeps a b → AppendsFront a b x
front_of_none None b x k = (0, tt)
front_of_none (Some xs) None x k = absurd k
front_of_none (Some xs) (Some ys) x k = (0, k ∙ sym (append-nil xs))

pub kept_front : (a b c : Option (List ℕ)) (x : List ℕ) → Keeps a b → AppendsFront b c x → AppendsFront a c x
kept_front a b c x k front = (front.0, kept_then a b c (take front.0 x) k front.1)

-- ---- what a reader has left

pub loses_none : (r : Option (List ℕ)) → LosesFront r r
loses_none None = ([], tt)
loses_none (Some xs) = ([], refl)

loses_more : (a b c : Option (List ℕ)) (x : List ℕ) → LosesFront a b → Consumes b c x → LosesFront a c
loses_more None b c x h k = ([], tt)
loses_more (Some xs) None c x h k = absurd h.1
loses_more (Some xs) (Some ys) None x h k = absurd k
loses_more (Some xs) (Some ys) (Some zs) x h k = (h.0 ++ x, h.1 ∙ ap (λ s. h.0 ++ s) k ∙ sym (append_assoc h.0 x zs))

pub loses_both : (a b c : Option (List ℕ)) → LosesFront a b → LosesFront b c → LosesFront a c
loses_both a b c h k = loses_more a b c k.0 h k.1

-- what holds at all holds where a call failed
pub on_err : {A E P : Type 0} (r : Result A E) → P → OnErr r P
on_err (Ok x) p = tt
on_err (Err e) p = p

pub on_ok : {A E P : Type 0} (r : Result A E) → P → OnOk r P
on_ok (Ok x) p = p
on_ok (Err e) p = tt

-- what is whole where a call ends well, and else cut, is a front
pub front_either : {A E : Type 0} (r : Result A E) (a b : Option (List ℕ)) (x : List ℕ) → OnOk r (Appends a b x)
    → OnErr r (AppendsFront a b x) → AppendsFront a b x
front_either (Ok v) a b x whole cut = front_of_all a b x whole
front_either (Err e) a b x whole cut = cut

-- ---- chains of steps

module _ {T : Type 0} (step : T → List ℕ → T → List ℕ → Type 0) where
  -- some lines lead from a state to another, with the reply to each
  abbrev Through : T → List (List ℕ) → List (List ℕ) → T → Type 0
  Through before [] [] after = before ≡ after
  Through before (line ∷ lines) (reply ∷ replies) after = (next : T) × step before line next reply × Through next lines
      replies after
  Through before [] (reply ∷ replies) after = ⊥
  Through before (line ∷ lines) [] after = ⊥

  through-session : (before after : T) (lines replies : List (List ℕ)) → Through before lines replies after
      → Session step before lines replies
  through-session before after [] [] h = tt
  through-session before after (line ∷ lines) (reply ∷ replies) h =
      (h.0, h.1, through-session h.0 after lines replies h.2)
  through-session before after [] (reply ∷ replies) h = absurd h
  through-session before after (line ∷ lines) [] h = absurd h

  through-more : (before middle after : T) (lines replies : List (List ℕ)) (line reply : List ℕ) → Through before lines
      replies middle → step middle line after reply → Through before (lines ++ line ∷ []) (replies ++ reply ∷ []) after
  through-more before middle after [] [] line reply h does = (after, rw h does, refl)
  through-more before middle after (l ∷ lines) (r ∷ replies) line reply h does =
      (h.0, h.1, through-more h.0 middle after lines replies line reply h.2 does)
  through-more before middle after [] (r ∷ replies) line reply h does = absurd h
  through-more before middle after (l ∷ lines) [] line reply h does = absurd h

-- what is read up to a line feed is the first line
next_line : (rest line : List ℕ) → 0 < length line → line ≡ take_through 10 rest → whole_lines_of rest
    ≡ strip_last 10 line
    ∷ whole_lines_of (drop_through 10 rest)
next_line [] line some took = absurd (omega (arith, ap length took))
next_line (b ∷ bs) line some took = lines_of-cons b bs ∙ ap (λ s. strip_last 10 s
    ∷ whole_lines_of (drop_through 10 (b ∷ bs)))
    (sym took)

one_more : (input done rest : List (List ℕ)) (line : List ℕ) (others : List (List ℕ)) → input ≡ done ++ rest → rest
    ≡ line ∷ others → input ≡ (done ++ line ∷ []) ++ others
one_more input done rest line others is next =
    is ∙ ap (λ s. done ++ s) next ∙ sym (append_assoc done (line ∷ []) others)

module _ {T : Type 0} (step : T → List ℕ → T → List ℕ → Type 0) (start : T) where
  -- A session that began with r0 to read and w0 written has come to this state, with r to read and w written: some
  -- lines are done and the replies to them told, and the rest of the bytes is to come.
  abbrev pub Going : (n : ℕ) (r0 w0 : Option (List ℕ)) → T → (r w : Option (List ℕ)) → Type 0
  Going n r0 w0 state r w = IfSome r0 (λ input. (told : List (List ℕ)) × (done : List (List ℕ)) × (rest : List ℕ)
      × (r ≡ Some rest)
      × (whole_lines_of input ≡ done ++ whole_lines_of rest) × Through step start done told state
      × Appends w0 w (flat_map with_line_feed told) × (length told ≡ n))

  pub going_from_start : (r0 w0 : Option (List ℕ)) → Going 0 r0 w0 start r0 w0
  going_from_start None w0 = tt
  going_from_start (Some input) w0 = ([], [], input, refl, refl, refl, appends_none w0, refl)

  pub going_on : (n : ℕ) (r0 w0 : Option (List ℕ)) (before after : T) (r r' w w' : Option (List ℕ))
      (line reply : List ℕ)
      → Going n r0 w0 before r w → 0 < length line → IfSome r (λ xs. line ≡ take_through 10 xs) → DropsThrough r r' 10
      → step before (strip_last 10 line) after reply → Appends w w' (with_line_feed reply)
      → Going (n + 1) r0 w0 after r' w'
  going_on n None w0 before after r r' w w' line reply so_far some taken left does told = tt
  going_on n (Some input) w0 before after r r' w w' line reply so_far some taken left does told =
      let rest = so_far.2 in
      let took : line ≡ take_through 10 rest = rw so_far.3 at taken in
      let leaves : r' ≡ Some (drop_through 10 rest) = rw so_far.3 at left in
      let all = appends_both w0 w w' (flat_map with_line_feed so_far.0) (with_line_feed reply) so_far.6 told in (
        so_far.0 ++ reply ∷ [],
        so_far.1 ++ strip_last 10 line ∷ [],
        drop_through 10 rest,
        leaves,
        one_more (whole_lines_of input) so_far.1 (whole_lines_of rest) (strip_last 10 line)
            (whole_lines_of (drop_through 10 rest))
            so_far.4 (next_line rest line some took),
        through-more step start before after so_far.1 so_far.0 (strip_last 10 line) reply so_far.5 does,
        rw (← flat_map_more with_line_feed [] so_far.0 reply) all,
        length-append so_far.0 (reply ∷ []) ∙ ap (λ m. m + 1) so_far.7,
      )

  pub going_to_end : (n : ℕ) (r0 w0 : Option (List ℕ)) (state : T) (r w w' : Option (List ℕ)) → Going n r0 w0 state r w
      → IsAtEnd r → Keeps w w' → ServesFrom step start r0 w0 w'
  going_to_end n None w0 state r w w' so_far end kept = tt
  going_to_end n (Some input) w0 state r w w' so_far end kept =
      let none_left : so_far.2 ≡ [] = rw so_far.3 at end in
      let all : whole_lines_of input ≡ so_far.1 = so_far.4 ∙ ap (λ s. so_far.1 ++ whole_lines_of s) none_left
      ∙ append-nil so_far.1 in (
        so_far.0,
        rw all (through-session step start state so_far.1 so_far.0 so_far.5),
        appends_kept w0 w w' _
            so_far.6 kept,
      )

  -- it is cut short between two lines
  pub stops_here : (n : ℕ) (r0 w0 : Option (List ℕ)) (state : T) (r w w' : Option (List ℕ))
      → Going n r0 w0 state r w → Keeps w w'
      → StopsFrom step start r0 w0 w'
  stops_here n None w0 state r w w' so_far kept = tt
  stops_here n (Some input) w0 state r w w' so_far kept =
      let first : take (length so_far.1) (whole_lines_of input) ≡ so_far.1 =
      ap (take (length so_far.1)) so_far.4 ∙ take-all so_far.1 (whole_lines_of so_far.2) in (
        length so_far.1,
        so_far.0,
        rw first (through-session step start state so_far.1 so_far.0 so_far.5),
        front_of_all
            w0 w' _ (appends_kept w0 w w' _ so_far.6 kept),
      )

  -- it is cut short before its first line
  pub stops_at_once : (r0 w0 : Option (List ℕ)) → StopsFrom step start r0 w0 w0
  stops_at_once r0 w0 = stops_here 0 r0 w0 start r0 w0 w0 (going_from_start r0 w0) (keeps_self w0)

  -- it is cut short in a reply
  pub stops_within : (n : ℕ) (r0 w0 : Option (List ℕ)) (before after : T) (r w w' : Option (List ℕ))
      (line reply : List ℕ)
      → Going n r0 w0 before r w → 0 < length line → IfSome r (λ xs. line ≡ take_through 10 xs)
      → step before (strip_last 10 line) after reply → AppendsFront w w' (reply ++ 10 ∷ []) → StopsFrom step
      start r0 w0 w'
  stops_within n None w0 before after r w w' line reply so_far some taken does front = tt
  stops_within n (Some input) w0 before after r w w' line reply so_far some taken does front =
      let rest = so_far.2 in
      let took : line ≡ take_through 10 rest = rw so_far.3 at taken in
      let done = so_far.1 ++ strip_last 10 line ∷ [] in
      let all = one_more (whole_lines_of input) so_far.1 (whole_lines_of rest) (strip_last 10 line)
      (whole_lines_of (drop_through 10 rest)) so_far.4 (next_line rest line some took) in
      let first : take (length done) (whole_lines_of input) ≡ done =
      ap (take (length done)) all ∙ take-all done (whole_lines_of (drop_through 10 rest)) in
      let through = through-more step start before after so_far.1 so_far.0 (strip_last 10 line) reply so_far.5 does in
      let written = front_behind w0 w w' (flat_map with_line_feed so_far.0) (reply ++ 10 ∷ []) so_far.6 front in (
        length done,
        so_far.0 ++ reply ∷ [],
        rw first (through-session step start after done (so_far.0 ++ reply ∷ [])
            through),
        rw (← flat_map_more with_line_feed [] so_far.0 reply) written,
      )

  -- it is cut short between two lines, the next of which is here, for want of memory for its reply
  pub halts_here : (n : ℕ) (r0 w0 : Option (List ℕ)) (state : T) (r w w' : Option (List ℕ)) (line : List ℕ)
      (lacks : Type 0) → Going n r0 w0 state r w → 0 < length line → IfSome r (λ xs. line ≡ take_through 10 xs) → lacks
      → Keeps w w' → HaltsFrom step start lacks r0 w0 w'
  halts_here n None w0 state r w w' line lacks so_far some taken why kept = tt
  halts_here n (Some input) w0 state r w w' line lacks so_far some taken why kept =
      let rest = so_far.2 in
      let took : line ≡ take_through 10 rest = rw so_far.3 at taken in
      let all = so_far.4 ∙ ap (λ s. so_far.1 ++ s) (next_line rest line some took) in
      let first : take (length so_far.1) (whole_lines_of input) ≡ so_far.1 =
      ap (take (length so_far.1)) so_far.4 ∙ take-all so_far.1 (whole_lines_of rest) in
      let more : length so_far.1 < length (whole_lines_of input) = omega (
        arith,
        ap length all,
        length-append so_far.1 (strip_last 10 line ∷ whole_lines_of (drop_through 10 rest)),
      ) in (
        length so_far.1,
        so_far.0,
        rw first (through-session step start state so_far.1 so_far.0 so_far.5),
        appends_kept w0 w w' _ so_far.6 kept,
        inl (more, why),
      )

  -- it is cut short where it has told as many replies as a session may
  pub halts_full : (n : ℕ) (r0 w0 : Option (List ℕ)) (state : T) (r w : Option (List ℕ)) (lacks : Type 0)
      → Going n r0 w0 state r w → n ≡ 2 ^ 64 - 1 → HaltsFrom step start lacks r0 w0 w
  halts_full n None w0 state r w lacks so_far full = tt
  halts_full n (Some input) w0 state r w lacks so_far full =
      let first : take (length so_far.1) (whole_lines_of input) ≡ so_far.1 =
      ap (take (length so_far.1)) so_far.4 ∙ take-all so_far.1 (whole_lines_of so_far.2) in (
        length so_far.1,
        so_far.0,
        rw first (through-session step start state so_far.1 so_far.0 so_far.5),
        so_far.6,
        inr (so_far.7 ∙ full),
      )
