use Rattle.std.proofs.Common.{◌≡◌, ◌+◌, ◌*◌, [], ◌∷◌, ◌++◌, length, take, get_or, refl, sym, ap, ap₂, ◌∙◌, ◌≤◌, arith}
use Rattle.std.proofs.lemmas.List.{length-take-le}
use Rattle.base64.proofs.EngineFacts.{encode_of-append, encode_of-nil}
use Rattle.base64.specs.Rfc4648.{encode_symbols}
use Rattle.base64.specs.Engines.{standard}
use Rattle.base64.specs.GeneralPurpose.{encode_of}
use Rattle.signed_notes.proofs.SymbolGroups.{four-long, four-more, three-more}
use Rattle.signed_notes.proofs.symbols.word_of.Goals as goal

pub groups-init : goal.groups-init
groups-init c = record { long = refl; within = omega arith; front = sym (encode_of-nil standard) }

pub groups-preserved : goal.groups-preserved
unfolding encode_symbols
groups-preserved c =
    let g = c.groups.group in
    let word = c.groups.word in
    let bytes = c.args.bytes.now in
    let here : g + 1 ≤ 11 = omega (arith, c.groups-test.true) in
    let x = get_or bytes (3 * g) 0 in
    let y = get_or bytes (3 * g + 1) 0 in
    let z = get_or bytes (3 * g + 2) 0 in
    let w = c.symbol_of.result ∷ c.symbol_of-in-groups.result ∷ c.symbol_of-in-groups-2.result
    ∷ c.symbol_of-in-groups-3.result ∷ [] in
    let symbols : w ≡ encode_of standard (x ∷ y ∷ z ∷ []) =
    rw (
      c.symbol_of.ensures,
      c.symbol_of-in-groups.ensures,
      c.symbol_of-in-groups-2.ensures,
      c.symbol_of-in-groups-3.ensures,
    ) refl in
    let long : length (take (3 * g) bytes) ≡ 3 * g = length-take-le (3 * g) bytes (omega (arith, here, c.told-bytes)) in
    let to : 4 * (g + 1) ≡ 4 * g + 4 = omega arith in
    let from : 3 * (g + 1) ≡ 3 * g + 3 = omega arith in
    let three : take (3 * (g + 1)) bytes ≡ take (3 * g) bytes ++ (x ∷ y ∷ z ∷ []) = ap (λ n. take n bytes) from
    ∙ three-more bytes (3 * g) (omega (arith, here, c.told-bytes)) in
    record {
      long = four-long word (4 * g) _ _ _ _ ∙ c.groups.invariant.long;
      within = here;
      front = rw to (four-more word (4 * g) _ _ _ _ (omega (arith, here, c.groups.invariant.long))
          ∙ ap₂ (λ xs ys. xs ++ ys) c.groups.invariant.front symbols
          ∙ sym (ap (encode_of standard) three ∙ encode_of-append standard (take (3 * g) bytes) (x ∷ y ∷ z ∷ [])
          (omega (arith, long))));
    }
