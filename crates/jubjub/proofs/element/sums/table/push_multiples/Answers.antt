use Rattle.std.proofs.Common.{◌≡◌, ℕ, suc, ◌+◌, ◌++◌, ◌∷◌, [], ◌≤◌, List, map, refl, sym, ap, ap₂, ◌∙◌, append_assoc, append-nil, arith}
use Rattle.std.specs.List.{range_with_len}
use Rattle.std.proofs.lemmas.List.{map-append}
use Rattle.std.proofs.lemmas.List.FromFn.{map-range_with_len_more}
use Rattle.ark_groups.specs.Group.{times}
use Rattle.ark_groups.proofs.Multiples.{times-add, times_at}
use Rattle.jubjub.specs.declared.element.Jubjub.{Jubjub}
use Rattle.jubjub.specs.declared.element.sums.JubjubSum.{JubjubSum}
use Rattle.jubjub.specs.Elements.{jubjub}
use Rattle.jubjub.specs.Laws.Group.{jubjub_laws}
use Rattle.jubjub.specs.Sums.{total}
use Rattle.jubjub.proofs.element.sums.table.push_multiples.Goals as goal

abbrev multiples : Jubjub → ℕ → List Jubjub
multiples x n = map (λ k. times jubjub k x) (range_with_len 1 n)

one_more : (before next : List JubjubSum) (start : List Jubjub) (last : JubjubSum) (x : Jubjub) (n : ℕ)
    → next ≡ before ++ last ∷ [] → total last ≡ times jubjub (1 + n) x → map total before ≡ start ++ multiples x n
    → map total next ≡ start ++ multiples x (n + 1)
one_more before next start last x n put is_last so_far =
    ap (map total) put ∙ map-append total before (last ∷ [])
    ∙ ap₂ (λ front y. front ++ y ∷ []) so_far is_last
    ∙ append_assoc start (multiples x n) (times jubjub (1 + n) x ∷ [])
    ∙ ap (λ t. start ++ t) (sym (map-range_with_len_more (λ k. times jubjub k x) 1 n (1 + n) refl))

pub loop-init : goal.loop-init
loop-init c =
    let first = sym (jubjub_laws.left_identity (total c.args.unit)) in (
      one_more c.args.sums.now.items c.push.new.self.items (map total c.args.sums.now.items) c.args.unit
          (total c.args.unit) 0 c.in_ok-push.ensures.items first (sym (append-nil (map total c.args.sums.now.items))),
      first,
    )

pub loop-preserved : goal.loop-preserved
loop-preserved c =
    let n = c.loop.counter in
    let x = total c.args.unit in
    let next = c.add_sums-last.ensures ∙ ap (λ s. jubjub.plus s x) c.loop.invariant.1
    ∙ times_at jubjub_laws x (one_on n) in (
      one_more c.loop.sums.items c.push-in-loop.new.self.items (map total c.args.sums.now.items)
          c.add_sums-last.result x n c.in_ok-push-2.ensures.items next c.loop.invariant.0,
      next ∙ times_at jubjub_laws x (turned n),
    )
  where
    one_on : (n : ℕ) → suc n ≡ 1 + n
    one_on n = omega arith

    turned : (n : ℕ) → 1 + n ≡ n + 1
    turned n = omega arith

-- all digits were passed
all : (n : ℕ) → 16 ≤ n → n ≤ 16 → n ≡ 16
all n past within = omega (arith, past, within)

pub returns-clause-row : goal.returns-clause-row
returns-clause-row c =
    c.loop.invariant.0
    ∙ ap (λ n. map total c.args.sums.now.items ++ multiples (total c.args.unit) n)
    (all c.loop.counter c.loop-test.false (c.loop.auto.counter-end (omega arith)))

pub returns-clause-next : goal.returns-clause-next
returns-clause-next c =
    let x = total c.args.unit in
    let last = c.loop.invariant.1
    ∙ ap (λ n. times jubjub n x) (all c.loop.counter c.loop-test.false (c.loop.auto.counter-end (omega arith))) in
    c.double_sum.ensures ∙ ap₂ jubjub.plus last last ∙ sym (times-add jubjub_laws 16 16 x)
