-- The first line of some bytes.
use Rattle.std.proofs.Common.{◌≡◌, ℕ, suc, ◌==◌, ltb, Bool, true, false, cond, List, [], ◌∷◌, length, take, get_or, refl, sym, ◌∙◌, ap, rules, tests, sub-one}
use Rattle.std.specs.Prelude.{◌&&◌}
use Rattle.std.specs.Io.BufRead.{take_through, drop_through, strip_last}
use Rattle.acp_run.specs.Lines.{onto_first, whole_lines_of}

above_zero : (n : ℕ) → ltb 0 (suc n) ≡ true
above_zero n = search (rules, tests)

strip_last-cons : (b : ℕ) (bs : List ℕ) → strip_last 10 (b ∷ bs) ≡ cond (get_or (b ∷ bs) (length bs) 0 == 10)
    (take (length bs) (b ∷ bs)) (b ∷ bs)
strip_last-cons b bs = rw sub-one (ap (λ t. cond (t && (get_or (b ∷ bs) (length bs) 0 == 10))
    (take (length bs) (b ∷ bs)) (b ∷ bs)) (above_zero (length bs)))

-- a byte alone
strip_last-one : (b : ℕ) (t : Bool) → (b == 10) ≡ t → strip_last 10 (b ∷ []) ≡ cond t [] (b ∷ [])
strip_last-one b t e = strip_last-cons b [] ∙ ap (λ v. cond v [] (b ∷ [])) e

cond-cons : (t : Bool) (x : ℕ) (xs ys : List ℕ) → cond t (x ∷ xs) (x ∷ ys) ≡ x ∷ cond t xs ys
cond-cons true x xs ys = refl
cond-cons false x xs ys = refl

-- what ends the bytes from a byte on ends a longer list so too
strip_last-more : (x b : ℕ) (bs : List ℕ) → strip_last 10 (x ∷ b ∷ bs) ≡ x ∷ strip_last 10 (b ∷ bs)
strip_last-more x b bs = strip_last-cons x (b ∷ bs) ∙ cond-cons (get_or (b ∷ bs) (length bs) 0 == 10) x
    (take (length bs) (b ∷ bs)) (b ∷ bs) ∙ ap (λ s. x ∷ s) (sym (strip_last-cons b bs))

strip_last-through : (x : ℕ) (t : Bool) (b : ℕ) (bs : List ℕ) → strip_last 10 (x ∷ cond t (b ∷ []) (b ∷ bs)) ≡ x
    ∷ strip_last 10 (cond t (b ∷ []) (b ∷ bs))
strip_last-through x true b bs = strip_last-more x b []
strip_last-through x false b bs = strip_last-more x b bs

-- the same, by the test of the first byte
one_line : (b : ℕ) (t : Bool) → (b == 10) ≡ t → cond t ([] ∷ []) ((b ∷ []) ∷ []) ≡ strip_last 10
    (cond t (b ∷ []) (b ∷ [])) ∷ whole_lines_of (cond t [] [])
one_line b true e = ap (λ s. s ∷ []) (sym (strip_last-one b true e))
one_line b false e = ap (λ s. s ∷ []) (sym (strip_last-one b false e))

line_by : (b c : ℕ) (cs : List ℕ) (t : Bool) → (b == 10) ≡ t → whole_lines_of (c ∷ cs) ≡ strip_last 10
    (take_through 10 (c ∷ cs)) ∷ whole_lines_of (drop_through 10 (c ∷ cs)) → cond t ([] ∷ whole_lines_of (c ∷ cs))
    (onto_first b (whole_lines_of (c ∷ cs))) ≡ strip_last 10 (cond t (b ∷ []) (b ∷ take_through 10 (c ∷ cs)))
    ∷ whole_lines_of (cond t (c ∷ cs) (drop_through 10 (c ∷ cs)))
line_by b c cs true e h = ap (λ s. s ∷ whole_lines_of (c ∷ cs)) (sym (strip_last-one b true e))
line_by b c cs false e h = ap (onto_first b) h ∙ ap (λ s. s ∷ whole_lines_of (drop_through 10 (c ∷ cs)))
    (sym (strip_last-through b (c == 10) c (take_through 10 cs)))

-- what is read up to a line feed is the first line
pub lines_of-cons : (b : ℕ) (bs : List ℕ) → whole_lines_of (b ∷ bs) ≡ strip_last 10 (take_through 10 (b ∷ bs))
    ∷ whole_lines_of (drop_through 10 (b ∷ bs))
lines_of-cons b [] = one_line b (b == 10) refl
lines_of-cons b (c ∷ cs) = line_by b c cs (b == 10) refl (lines_of-cons c cs)
