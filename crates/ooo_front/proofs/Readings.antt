-- A text has one answer. The laws of the layers are premises.
use Rattle.std.proofs.Common.{◌≡◌, ◌≤◌, ◌⊎◌, inl, inr, ◌∙◌, arith, ℕ, List, [], refl, sym, ap, subst, ⊎_elim}
use Rattle.std.specs.Prelude.{Result, Ok, Err, length}
use Rattle.std.proofs.lemmas.Bool.{cases_lt}
use Rattle.ooo_lexer.specs.Breaches.{HasBreach}
use Rattle.ooo_lexer.specs.Laws.{IsCutOneWay, HasOneBreach, HasNoCutting, IsCutOrBroken}
use Rattle.ooo_lexer.specs.Positions.{position_of_end}
use Rattle.ooo_lexer.specs.declared.breach.LexBreach.{LexBreach}
use Rattle.ooo_lexer.specs.declared.position.Position.{Position}
use Rattle.ooo_syntax.specs.declared.error.ParseBreach.{ParseBreach}
use Rattle.ooo_syntax.specs.declared.unit.Unit.{Unit as UnitSpec}
use Rattle.ooo_grammar.specs.Roots.{whole_text}
use Rattle.ooo_parser.specs.Laws.{OneAnswer}
use Rattle.ooo_parser.specs.Refusals.{IsTreeOf, IsRefused as AreRefused}
use Rattle.ooo_checked.specs.declared.breach.Breach.{Breach}
use Rattle.ooo_checked.specs.declared.breach.TypeBreach.{TypeBreach}
use Rattle.ooo_types.specs.Told.{HasOneBreach as HasOneTypeBreach, IsEither, IsLeast, IsNotBoth, breaches_of}
use Rattle.ooo_bound.specs.declared.model.Bound.{Bound}
use Rattle.ooo_code.specs.declared.design.Design.{Design}
use Rattle.ooo_walk.specs.declared.refusal.Refusal.{Refusal}
use Rattle.ooo_front.specs.declared.answer.Accepted.{Accepted}
use Rattle.ooo_front.specs.declared.answer.Refused.{Refused}
use Rattle.ooo_front.specs.declared.answer.Refused.TheVariants as refused
use Rattle.ooo_segments.specs.Beginnings.{beginnings, greatest_segments}
use Rattle.ooo_shapes.specs.Designs.{design_of}
use Rattle.ooo_shapes.specs.Sizes.{code_size}
use Rattle.ooo_lower.specs.declared.designs.TheConstants.{GREATEST_SIZE}
use Rattle.ooo_front.specs.Layers.{IsAccepted, IsElaborated, IsFrontOf, IsMisspelled, IsMistyped, IsSpelled, IsTooLarge, IsTooMany, elaborated, text_symbols}
use Rattle.ooo_front.specs.Laws.{HasAnswer, HasOneAnswer}

-- what is accepted, of its three parts
abbrev accepted_of : Bound → Design → ℕ → Accepted
accepted_of m d n = record { bound = m; design = d; segments = n }

module _ (cut : IsCutOneWay) (uncut : HasNoCutting) (answer : OneAnswer) (typed : IsNotBoth) where
  -- what the lexer refuses is not cut, so it is not spelled
  uncut_spelled : (text : List ℕ) {b : LexBreach} {at : Position} {t : UnitSpec} → HasBreach text b at → IsSpelled text t → ⊥
  uncut_spelled text {b} {at} r s = uncut text b at s.pieces r s.cut

  -- a text is cut in one way, so what is said of its symbols is said of one list
  apart : (text : List ℕ) {t : UnitSpec} {breach : ParseBreach} {at : Position} → IsMisspelled text breach at → IsSpelled text t → ⊥
  apart text {t} {breach} {at} r s =
      (answer whole_text (text_symbols text s.pieces) (position_of_end text)).not_both t breach at s.spelled
      (subst (λ ps. AreRefused whole_text (text_symbols text ps) (position_of_end text) breach at) (cut text r.pieces s.pieces r.cut s.cut) r.refused)

  -- it is spelled as one tree
  one_tree : (text : List ℕ) {t u : UnitSpec} → IsSpelled text t → IsSpelled text u → t ≡ u
  one_tree text {t} {u} a b =
      (answer whole_text (text_symbols text b.pieces) (position_of_end text)).one_tree t u
      (subst (λ ps. IsTreeOf whole_text (text_symbols text ps) t) (cut text a.pieces b.pieces a.cut b.cut) a.spelled) b.spelled

  -- a text with a breach of its names and types is not one with none
  wrong_or_right : (text : List ℕ) {t : UnitSpec} {breach : TypeBreach} {at : Position} →
      IsMistyped text breach at → IsSpelled text t → breaches_of t ≡ [] → ⊥
  wrong_or_right text {t} {breach} {at} r s right =
      typed t (record { what = breach; at = at })
      (subst (λ u. IsLeast (record { what = breach; at = at }) (breaches_of u)) (one_tree text r.spelled s) r.told) right

  -- its elaboration comes to one end
  one_end : (text : List ℕ) {x y : Result Bound Refusal} → IsElaborated text x → IsElaborated text y → x ≡ y
  one_end text a b = sym a.is ∙ ap elaborated (one_tree text a.spelled b.spelled) ∙ b.is

  one_bound : (text : List ℕ) (a b : Bound) → IsElaborated text (Ok a) → IsElaborated text (Ok b) → a ≡ b
  one_bound text a b r s = same (Ok a) (Ok b) refl refl (one_end text r s) where
    same : (x y : Result Bound Refusal) → x ≡ Ok a → y ≡ Ok b → x ≡ y → a ≡ b
    same x y p q e = cc

  one_model : (text : List ℕ) (a b : Accepted) → IsAccepted text a → IsAccepted text b → a ≡ b
  one_model text a b r s =
      let models : a.bound ≡ b.bound = one_bound text a.bound b.bound r.elaborated s.elaborated in
      let designs : a.design ≡ b.design = r.lowered.design ∙ ap design_of models ∙ sym s.lowered.design in
      let counts : a.segments ≡ b.segments = r.segments ∙ ap (λ (d : Design). length (beginnings d)) designs ∙ sym s.segments in
      ap (λ (m : Bound). accepted_of m a.design a.segments) models ∙ ap (λ (d : Design). accepted_of b.bound d a.segments) designs
      ∙ ap (λ (n : ℕ). accepted_of b.bound b.design n) counts

  -- the code of its model is too large, or it isn't
  fits_or_not : (text : List ℕ) (a : Accepted) → IsAccepted text a → IsTooLarge text → ⊥
  fits_or_not text a r s =
      let models : a.bound ≡ s.bound = one_bound text a.bound s.bound r.elaborated s.elaborated in
      let size : code_size a.bound ≡ code_size s.bound = ap code_size models in
      omega (arith, size, r.lowered.within, s.large)

  -- its design has too many segments, or it hasn't
  few_or_many : (text : List ℕ) (a : Accepted) → IsAccepted text a → IsTooMany text → ⊥
  few_or_many text a r s =
      let models : a.bound ≡ s.bound = one_bound text a.bound s.bound r.elaborated s.elaborated in
      let designs : a.design ≡ design_of s.bound = r.lowered.design ∙ ap design_of models in
      let count : length (beginnings a.design) ≡ length (beginnings (design_of s.bound)) = ap (λ d. length (beginnings d)) designs in
      omega (arith, count, r.few, s.many)

  -- its segments are counted only where its code isn't too large
  large_or_many : (text : List ℕ) → IsTooLarge text → IsTooMany text → ⊥
  large_or_many text r s =
      let size : code_size r.bound ≡ code_size s.bound = ap code_size (one_bound text r.bound s.bound r.elaborated s.elaborated) in
      omega (arith, size, r.large, s.within)

  one_reason : (text : List ℕ) (a b : Refusal) → IsElaborated text (Err a) → IsElaborated text (Err b) → a ≡ b
  one_reason text a b r s = same (Err a) (Err b) refl refl (one_end text r s) where
    same : (x y : Result Bound Refusal) → x ≡ Err a → y ≡ Err b → x ≡ y → a ≡ b
    same x y p q e = cc

  not_both : (text : List ℕ) {m : Bound} {why : Refusal} → IsElaborated text (Ok m) → IsElaborated text (Err why) → ⊥
  not_both text {m} {why} r s = differ (one_end text r s) where
    differ : Ok m ≡ Err why → ⊥
    differ e = cc

  one_misspelling : (text : List ℕ) (b c : ParseBreach) (at there : Position) → IsMisspelled text b at → IsMisspelled text c there → refused.Parser b at ≡ refused.Parser c there
  one_misspelling text b c at there r s =
      let same = (answer whole_text (text_symbols text s.pieces) (position_of_end text)).one_refusal b c at there
      (subst (λ ps. AreRefused whole_text (text_symbols text ps) (position_of_end text) b at) (cut text r.pieces s.pieces r.cut s.cut) r.refused) s.refused in
      let breach : b ≡ c = same.0 in
      let position : at ≡ there = same.1 in
      cc

  module _ (one : HasOneBreach) (least : HasOneTypeBreach) where
    one_break : (text : List ℕ) (b c : LexBreach) (at there : Position) → HasBreach text b at → HasBreach text c there → refused.Lexer b at ≡ refused.Lexer c there
    one_break text b c at there r s =
        let same = one text b at r c there s in
        let breach : c ≡ b = same.0 in
        let position : there ≡ at = same.1 in
        cc

    one_mistyping : (text : List ℕ) (b c : TypeBreach) (at there : Position) → IsMistyped text b at → IsMistyped text c there → refused.Types b at ≡ refused.Types c there
    one_mistyping text b c at there r s =
        ap (λ (d : Breach). refused.Types d.what d.at)
        (least s.tree (record { what = b; at = at }) (record { what = c; at = there })
        (subst (λ u. IsLeast (record { what = b; at = at }) (breaches_of u)) (one_tree text r.spelled s.spelled) r.told) s.told)

    pub one_answer : HasOneAnswer
    one_answer text (Ok a) (Ok b) r s = ap Ok (one_model text a b r s)
    one_answer text (Ok a) (Err (refused.Lexer c there)) r s = absurd (uncut_spelled text s r.elaborated.spelled)
    one_answer text (Ok a) (Err (refused.Parser c there)) r s = absurd (apart text s r.elaborated.spelled)
    one_answer text (Ok a) (Err (refused.Types c there)) r s = absurd (wrong_or_right text s r.elaborated.spelled r.elaborated.right)
    one_answer text (Ok a) (Err (refused.Elaborate why)) r s = absurd (not_both text r.elaborated s)
    one_answer text (Ok a) (Err refused.CodeTooLarge) r s = absurd (fits_or_not text a r s)
    one_answer text (Ok a) (Err refused.TooManySegments) r s = absurd (few_or_many text a r s)
    one_answer text (Ok a) (Err refused.OutOfMemory) r s = absurd s
    one_answer text (Err (refused.Lexer b at)) (Ok c) r s = absurd (uncut_spelled text r s.elaborated.spelled)
    one_answer text (Err (refused.Lexer b at)) (Err (refused.Lexer c there)) r s = ap Err (one_break text b c at there r s)
    one_answer text (Err (refused.Lexer b at)) (Err (refused.Parser c there)) r s = absurd (uncut text b at s.pieces r s.cut)
    one_answer text (Err (refused.Lexer b at)) (Err (refused.Types c there)) r s = absurd (uncut_spelled text r s.spelled)
    one_answer text (Err (refused.Lexer b at)) (Err (refused.Elaborate why)) r s = absurd (uncut_spelled text r s.spelled)
    one_answer text (Err (refused.Lexer b at)) (Err refused.CodeTooLarge) r s = absurd (uncut_spelled text r s.elaborated.spelled)
    one_answer text (Err (refused.Lexer b at)) (Err refused.TooManySegments) r s = absurd (uncut_spelled text r s.elaborated.spelled)
    one_answer text (Err (refused.Lexer b at)) (Err refused.OutOfMemory) r s = absurd s
    one_answer text (Err (refused.Parser b at)) (Ok c) r s = absurd (apart text r s.elaborated.spelled)
    one_answer text (Err (refused.Parser b at)) (Err (refused.Lexer c there)) r s = absurd (uncut text c there r.pieces s r.cut)
    one_answer text (Err (refused.Parser b at)) (Err (refused.Parser c there)) r s = ap Err (one_misspelling text b c at there r s)
    one_answer text (Err (refused.Parser b at)) (Err (refused.Types c there)) r s = absurd (apart text r s.spelled)
    one_answer text (Err (refused.Parser b at)) (Err (refused.Elaborate why)) r s = absurd (apart text r s.spelled)
    one_answer text (Err (refused.Parser b at)) (Err refused.CodeTooLarge) r s = absurd (apart text r s.elaborated.spelled)
    one_answer text (Err (refused.Parser b at)) (Err refused.TooManySegments) r s = absurd (apart text r s.elaborated.spelled)
    one_answer text (Err (refused.Parser b at)) (Err refused.OutOfMemory) r s = absurd s
    one_answer text (Err (refused.Types b at)) (Ok c) r s = absurd (wrong_or_right text r s.elaborated.spelled s.elaborated.right)
    one_answer text (Err (refused.Types b at)) (Err (refused.Lexer c there)) r s = absurd (uncut_spelled text s r.spelled)
    one_answer text (Err (refused.Types b at)) (Err (refused.Parser c there)) r s = absurd (apart text s r.spelled)
    one_answer text (Err (refused.Types b at)) (Err (refused.Types c there)) r s = ap Err (one_mistyping text b c at there r s)
    one_answer text (Err (refused.Types b at)) (Err (refused.Elaborate why)) r s = absurd (wrong_or_right text r s.spelled s.right)
    one_answer text (Err (refused.Types b at)) (Err refused.CodeTooLarge) r s = absurd (wrong_or_right text r s.elaborated.spelled s.elaborated.right)
    one_answer text (Err (refused.Types b at)) (Err refused.TooManySegments) r s = absurd (wrong_or_right text r s.elaborated.spelled s.elaborated.right)
    one_answer text (Err (refused.Types b at)) (Err refused.OutOfMemory) r s = absurd s
    one_answer text (Err (refused.Elaborate why)) (Ok c) r s = absurd (not_both text s.elaborated r)
    one_answer text (Err (refused.Elaborate why)) (Err (refused.Lexer c there)) r s = absurd (uncut_spelled text s r.spelled)
    one_answer text (Err (refused.Elaborate why)) (Err (refused.Parser c there)) r s = absurd (apart text s r.spelled)
    one_answer text (Err (refused.Elaborate why)) (Err (refused.Types c there)) r s = absurd (wrong_or_right text s r.spelled r.right)
    one_answer text (Err (refused.Elaborate why)) (Err (refused.Elaborate c)) r s = ap (λ (x : Refusal). Err (refused.Elaborate x)) (one_reason text why c r s)
    one_answer text (Err (refused.Elaborate why)) (Err refused.CodeTooLarge) r s = absurd (not_both text s.elaborated r)
    one_answer text (Err (refused.Elaborate why)) (Err refused.TooManySegments) r s = absurd (not_both text s.elaborated r)
    one_answer text (Err (refused.Elaborate why)) (Err refused.OutOfMemory) r s = absurd s
    one_answer text (Err refused.CodeTooLarge) (Ok c) r s = absurd (fits_or_not text c s r)
    one_answer text (Err refused.CodeTooLarge) (Err (refused.Lexer c there)) r s = absurd (uncut_spelled text s r.elaborated.spelled)
    one_answer text (Err refused.CodeTooLarge) (Err (refused.Parser c there)) r s = absurd (apart text s r.elaborated.spelled)
    one_answer text (Err refused.CodeTooLarge) (Err (refused.Types c there)) r s = absurd (wrong_or_right text s r.elaborated.spelled r.elaborated.right)
    one_answer text (Err refused.CodeTooLarge) (Err (refused.Elaborate why)) r s = absurd (not_both text r.elaborated s)
    one_answer text (Err refused.CodeTooLarge) (Err refused.CodeTooLarge) r s = refl
    one_answer text (Err refused.CodeTooLarge) (Err refused.TooManySegments) r s = absurd (large_or_many text r s)
    one_answer text (Err refused.CodeTooLarge) (Err refused.OutOfMemory) r s = absurd s
    one_answer text (Err refused.TooManySegments) (Ok c) r s = absurd (few_or_many text c s r)
    one_answer text (Err refused.TooManySegments) (Err (refused.Lexer c there)) r s = absurd (uncut_spelled text s r.elaborated.spelled)
    one_answer text (Err refused.TooManySegments) (Err (refused.Parser c there)) r s = absurd (apart text s r.elaborated.spelled)
    one_answer text (Err refused.TooManySegments) (Err (refused.Types c there)) r s = absurd (wrong_or_right text s r.elaborated.spelled r.elaborated.right)
    one_answer text (Err refused.TooManySegments) (Err (refused.Elaborate why)) r s = absurd (not_both text r.elaborated s)
    one_answer text (Err refused.TooManySegments) (Err refused.CodeTooLarge) r s = absurd (large_or_many text s r)
    one_answer text (Err refused.TooManySegments) (Err refused.TooManySegments) r s = refl
    one_answer text (Err refused.TooManySegments) (Err refused.OutOfMemory) r s = absurd s
    one_answer text (Err refused.OutOfMemory) b r s = absurd r

-- a design has too many segments, or it hasn't
counted_answer : (text : List ℕ) (b : Bound) → IsElaborated text (Ok b) → code_size b ≤ GREATEST_SIZE → (a : Result Accepted Refused) × IsFrontOf text a
counted_answer text b is fits =
    ⊎_elim
    (λ many. (Err refused.TooManySegments, record { bound = b; elaborated = is; within = fits; many = many }))
    (λ few. (
      Ok (accepted_of b (design_of b) (length (beginnings (design_of b)))),
      record {
        elaborated = is;
        lowered = record { design = refl; within = fits };
        segments = refl;
        few = few;
      },
    ))
    (cases_lt greatest_segments (length (beginnings (design_of b))))

-- the code of a bound model is too large, or it has a design
lowered_answer : (text : List ℕ) (b : Bound) → IsElaborated text (Ok b) → (a : Result Accepted Refused) × IsFrontOf text a
lowered_answer text b is =
    ⊎_elim
    (λ large. (Err refused.CodeTooLarge, record { bound = b; elaborated = is; large = large }))
    (λ fits. counted_answer text b is fits)
    (cases_lt GREATEST_SIZE (code_size b))

-- a text whose names and types are right can't be elaborated, or has a bound model
right_answer : (text : List ℕ) (t : UnitSpec) → IsSpelled text t → breaches_of t ≡ [] → (to : Result Bound Refusal) → elaborated t ≡ to → (a : Result Accepted Refused) × IsFrontOf text a
right_answer text t s right (Ok b) is = lowered_answer text b (record { tree = t; spelled = s; right = right; is = is })
right_answer text t s right (Err why) is = (Err (refused.Elaborate why), record { tree = t; spelled = s; right = right; is = is })

-- a breach is told as its parts
told_as : (bs : List Breach) (b : Breach) → IsLeast b bs → IsLeast (record { what = b.what; at = b.at }) bs
told_as bs b least = least

-- a text that is spelled is refused for its names and types, or is one whose names and types are right
spelled_answer : (text : List ℕ) (t : UnitSpec) → IsSpelled text t → (breaches_of t ≡ []) ⊎ ((b : Breach) × IsLeast b (breaches_of t)) → (a : Result Accepted Refused) × IsFrontOf text a
spelled_answer text t s (inl right) = right_answer text t s right (elaborated t) refl
spelled_answer text t s (inr wrong) =
    (Err (refused.Types wrong.0.what wrong.0.at), record { tree = t; spelled = s; told = told_as (breaches_of t) wrong.0 wrong.1 })

pub some_answer : IsCutOrBroken → OneAnswer → IsEither → HasAnswer
some_answer either answer typed text =
    ⊎_elim
    (λ cut. ⊎_elim
    (λ t. spelled_answer text t.0 (record { pieces = cut.0; cut = cut.1; spelled = t.1 }) (typed t.0))
    (λ r. (Err (refused.Parser r.0 r.1), record { pieces = cut.0; cut = cut.1; refused = r.2 }))
    (answer whole_text (text_symbols text cut.0) (position_of_end text)).answered)
    (λ broken. (Err (refused.Lexer broken.0 broken.1.0), broken.1.1))
    (either text)
