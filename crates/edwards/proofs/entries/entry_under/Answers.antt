use Rattle.std.proofs.Common.{◌≡◌, ℕ, List, [], ◌∷◌, get_or, ◌∙◌, ap, ap₂}
use Rattle.edwards.proofs.Couples.{six_are}
use Rattle.edwards.proofs.entries.entry_under.Goals as goal

same_six : {a b c d e f g h i j k l : List ℕ} → a ≡ g → b ≡ h → c ≡ i → d ≡ j → e ≡ k → f ≡ l
    → a ∷ b ∷ c ∷ d ∷ e ∷ f ∷ [] ≡ g ∷ h ∷ i ∷ j ∷ k ∷ l ∷ []
same_six a b c d e f =
    ap₂ (λ x more. x ∷ more) a (ap₂ (λ x more. x ∷ more) b (ap₂ (λ x more. x ∷ more) c
    (ap₂ (λ x more. x ∷ more) d (ap₂ (λ x more. x ∷ more) e (ap (λ x. x ∷ []) f)))))

pub returns-clause-first : goal.returns-clause-first
returns-clause-first c is_ones none =
    same_six
    (c.couple_under.ensures.first is_ones (ap (λ l. get_or l 0 []) none))
    (c.couple_under-2.ensures.first is_ones (ap (λ l. get_or l 1 []) none))
    (c.couple_under-3.ensures.first is_ones (ap (λ l. get_or l 2 []) none))
    (c.couple_under-4.ensures.first is_ones (ap (λ l. get_or l 3 []) none))
    (c.couple_under-5.ensures.first is_ones (ap (λ l. get_or l 4 []) none))
    (c.couple_under-6.ensures.first is_ones (ap (λ l. get_or l 5 []) none))
    ∙ six_are c.args.entry.now c.told-entry

pub returns-clause-second : goal.returns-clause-second
returns-clause-second c none =
    same_six (c.couple_under.ensures.second none) (c.couple_under-2.ensures.second none)
    (c.couple_under-3.ensures.second none) (c.couple_under-4.ensures.second none)
    (c.couple_under-5.ensures.second none) (c.couple_under-6.ensures.second none)
    ∙ six_are c.args.so_far.now c.told-so_far
