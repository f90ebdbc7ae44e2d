-- Elements that are read, and written.
use Rattle.std.proofs.Common.{◌≡◌, ℕ, suc, ◌+◌, ◌*◌, ◌%◌, ◌^◌, ◌<◌, ◌≤◌, List, [], ◌∷◌, ◌++◌, length, take, drop, get_or, All, Ok, Err, refl, sym, ap, ◌-◌, ◌∙◌, arith, append_assoc, append-nil, length-append, length-drop, drop-cons, add-one}
use Rattle.std.proofs.Math.Nat.{mod-eq_of_lt}
use Rattle.std.proofs.lemmas.Grind.{flat_map-append}
use Rattle.std.proofs.lemmas.List.{take_more, take-append-drop}
use Rattle.std.proofs.lemmas.List.Elements.{All-get_or}
use Rattle.std.proofs.lemmas.Nat.{mod_below}
use Rattle.ark_base.specs.declared.error.Error.{Error}
use Rattle.ark_base.specs.Digits.{bytes_of_number}
use Rattle.ark_base.specs.Laws.Digits.{length-bytes_of_number}
use Rattle.ark_base.specs.Outcome.{Outcome, ◌>>=◌}
use Rattle.ark_sponge.proofs.TableRows.{take-front, drop-front}
use Rattle.ark_wide_fields.specs.Laws.Montgomery.{form_below, form_made, form_same}
use Rattle.ark_wide_fields.specs.Moduli.{from_form}
use Rattle.circom.specs.declared.elements.ByteOrder.{ByteOrder}
use Rattle.circom.specs.Elements.{element_in, elements_of_bytes, form_bytes}

-- what is read behind others
abbrev pub behind : List ℕ → Outcome (List ℕ) → Outcome (List ℕ)
behind done rest = rest >>= λ xs. Ok (done ++ xs)

behind-one : (done : List ℕ) (x : ℕ) (rest : Outcome (List ℕ)) → behind done (rest >>= λ xs. Ok (x ∷ xs))
    ≡ behind (done ++ x ∷ []) rest
behind-one done x (Ok xs) = ap Ok (sym (append_assoc done (x ∷ []) xs))
behind-one done x (Err error) = refl

-- one element more is read
pub read_one : (p k : ℕ) (order : ByteOrder) (whole : Outcome (List ℕ)) (done rest part others : List ℕ) (x : ℕ)
    → whole ≡ behind done (elements_of_bytes p order (suc k) rest) → part ≡ take 32 rest → others ≡ drop 32 rest
    → element_in p order part ≡ Ok x → whole ≡ behind (done ++ x ∷ []) (elements_of_bytes p order k others)
unfolding elements_of_bytes
read_one p k order whole done rest part others x so_far is_part is_others is =
    let first : element_in p order (take 32 rest) ≡ Ok x = ap (element_in p order) (sym is_part) ∙ is in
    so_far
    ∙ ap (λ r. behind done (r >>= λ y. elements_of_bytes p order k (drop 32 rest) >>= λ ys. Ok (y ∷ ys))) first
    ∙ behind-one done x (elements_of_bytes p order k (drop 32 rest))
    ∙ ap (λ t. behind (done ++ x ∷ []) (elements_of_bytes p order k t)) (sym is_others)

-- an element is refused, and so all
pub read_refused : (p k : ℕ) (order : ByteOrder) (whole : Outcome (List ℕ)) (done rest part : List ℕ) (error : Error)
    → whole ≡ behind done (elements_of_bytes p order (suc k) rest) → part ≡ take 32 rest
    → element_in p order part ≡ Err error → whole ≡ Err error
unfolding elements_of_bytes
read_refused p k order whole done rest part error so_far is_part is =
    let first : element_in p order (take 32 rest) ≡ Err error = ap (element_in p order) (sym is_part) ∙ is in
    so_far ∙ ap (λ r. behind done (r >>= λ y. elements_of_bytes p order k (drop 32 rest) >>= λ ys. Ok (y ∷ ys))) first

-- all are read
pub read_all : (p : ℕ) (order : ByteOrder) (whole : Outcome (List ℕ)) (done rest : List ℕ)
    → whole ≡ behind done (elements_of_bytes p order 0 rest) → whole ≡ Ok done
unfolding elements_of_bytes
read_all p order whole done rest so_far = so_far ∙ ap Ok (append-nil done)

-- ---- Montgomery forms of numbers

pub length-form_bytes : (p : ℕ) (xs : List ℕ) → length (form_bytes p xs) ≡ 32 * length xs
length-form_bytes p [] = refl
length-form_bytes p (x ∷ xs) =
    let own = bytes_of_number 32 (x * 2 ^ 256 % p) in
    omega (
      arith,
      length-append own (form_bytes p xs),
      length-bytes_of_number 32 (x * 2 ^ 256 % p),
      length-form_bytes p xs,
    )

-- What bytes of which i elements were read say of the next one.
pub record NextForm (p i : ℕ) (xs rest done : List ℕ) : Type 0 where
  pub next : ℕ
  pub below : next < p
  pub part : take 32 rest ≡ bytes_of_number 32 (next * 2 ^ 256 % p)
  pub behind : drop 32 rest ≡ form_bytes p (drop (i + 1) xs)
  pub more : done ++ next ∷ [] ≡ take (i + 1) xs

pub next_form : (p i : ℕ) (xs rest done : List ℕ) → All (λ x. x < p) xs → 32 ≤ length rest
    → rest ≡ form_bytes p (drop i xs) → done ≡ take i xs → NextForm p i xs rest done
next_form p i xs rest done below room is_rest is_done =
    let within : i < length xs = omega (
      arith,
      room,
      ap length is_rest,
      length-form_bytes p (drop i xs),
      length-drop i xs,
    ) in
    let x = get_or xs i 0 in
    let own = bytes_of_number 32 (x * 2 ^ 256 % p) in
    let len : 32 ≡ length own = sym (length-bytes_of_number 32 (x * 2 ^ 256 % p)) in
    let split : rest ≡ own ++ form_bytes p (drop (i + 1) xs) =
    is_rest ∙ ap (form_bytes p) (drop-cons xs i 0 within ∙ ap (λ n. x ∷ drop n xs) (sym (add-one i))) in
    record {
      next = x;
      below = All-get_or (λ y. y < p) xs i 0 within below;
      part = ap (take 32) split ∙ take-front 32 own (form_bytes p (drop (i + 1) xs)) len;
      behind = ap (drop 32) split ∙ drop-front 32 own (form_bytes p (drop (i + 1) xs)) len;
      more = ap (λ t. t ++ x ∷ []) is_done ∙ sym (take_more xs i 0 within);
    }

-- a number below p is the form of its number
pub form_again : (p inverse : ℕ) (two : 2 ≤ p) (turned : inverse * p % 2 ^ 64 ≡ 2 ^ 64 - 1) (form : ℕ) → form < p
    → from_form p inverse form * 2 ^ 256 % p ≡ form
form_again p inverse two turned form below =
    let number = from_form p inverse form in
    form_same p inverse two turned (number * 2 ^ 256 % p) form (mod_below (number * 2 ^ 256) p (omega (arith, two)))
    below (form_made p inverse two turned number ∙ mod-eq_of_lt (form_below p inverse two turned form))

-- What was read is what was form, and one more is.
pub forms_further : (p : ℕ) (bytes rest part others numbers new : List ℕ) (x : ℕ)
    → bytes ≡ form_bytes p numbers ++ rest → part ≡ take 32 rest → others ≡ drop 32 rest
    → part ≡ bytes_of_number 32 (x * 2 ^ 256 % p) → new ≡ numbers ++ x ∷ [] → bytes ≡ form_bytes p new ++ others
forms_further p bytes rest part others numbers new x so_far is_part is_others is is_new =
    let own = bytes_of_number 32 (x * 2 ^ 256 % p) in
    let one : form_bytes p (x ∷ []) ≡ own = append-nil own in
    let split : rest ≡ own ++ others =
    sym (take-append-drop 32 rest) ∙ ap (λ t. t ++ drop 32 rest) (sym is_part ∙ is)
    ∙ ap (λ t. own ++ t) (sym is_others) in
    let form : form_bytes p new ≡ form_bytes p numbers ++ own =
    ap (form_bytes p) is_new ∙ flat_map-append (λ y. bytes_of_number 32 (y * 2 ^ 256 % p)) numbers (x ∷ [])
    ∙ ap (λ t. form_bytes p numbers ++ t) one in
    so_far ∙ ap (λ t. form_bytes p numbers ++ t) split ∙ sym (append_assoc (form_bytes p numbers) own others)
    ∙ ap (λ t. t ++ others) (sym form)
