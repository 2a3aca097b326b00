-- The functions that are compiled in the place of a program's.
use Rattle.std.proofs.Common.{◌≡◌, ℕ, zero, suc, ◌+◌, ◌*◌, ◌<◌, ◌&&◌, List, [], ◌∷◌, ◌++◌, length, map, slice_get, Some, refl, sym, ◌∙◌, ap, subst}
use Rattle.il_ast.specs.declared.function.Func.{Func}
use Rattle.il_ast.specs.declared.program.InText.{InText}
use Rattle.il_ast.specs.declared.program.Program.{Program}
use Rattle.il_ast.specs.declared.program.Target.{Target}
use Rattle.il_ast.specs.declared.value.Callee.TheVariants.{Defined}
use Rattle.il_ast.specs.Prelude.{weight}
use Rattle.phi_copies.specs.Good.{IsGoodFunction}
use Rattle.rv_isa.specs.Prelude.{Words, filled, all_reach}
use Rattle.obj_link.specs.declared.placing.addresses.Addresses.{Addresses}
use Rattle.obj_link.specs.Prelude.{IsThere, functions_start, start_words, write_words, exit_words, name_address, functions_words, functions_reach, addresses_of, contents_of, calls_reach, callee_address}
use Rattle.promote.specs.Uses.{mentions_of, width_in, IsPromoted, promoted_block}
use Rattle.il_reader.specs.Prelude.{FunctionParts, function_parts}
use Rattle.il_reader.proofs.OneTree.{function_same}
use Rattle.promote.specs.Programs.{ArePromoted, IsProgramPromoted}
use Rattle.promote.proofs.Respect.{all_respected}
use Rattle.promote.proofs.Rules.{rules_stay, limits_stay, same_weight}
use Rattle.headline.specs.Compiled.{EachStandsIn}
use Rattle.headline.specs.Executables.{NamesAreThere}
use Rattle.qbec.specs.Pipeline.{EachPromoted, with_functions}

-- ---- one function

pub still_good : (f g : Func) → IsPromoted f g → IsGoodFunction f → IsGoodFunction g
still_good f g is good =
    let w = width_in (mentions_of f) in
    record { rules = rules_stay w f g is (all_respected (mentions_of f)) good.rules; limits = limits_stay w f g is good.limits }

pub same_weights : (f g : Func) → IsPromoted f g → weight g ≡ weight f
same_weights f g is = same_weight (width_in (mentions_of f)) f g is

abbrev promoted_parts : Func → FunctionParts
promoted_parts f = record (function_parts f) { blocks = map (promoted_block (width_in (mentions_of f))) f.blocks }

same_parts : (f g : Func) → IsPromoted f g → function_parts g ≡ promoted_parts f
same_parts f g is =
    let p : FunctionParts = function_parts g in
    ap (λ x. record p { line = x }) is.line
    ∙ ap (λ x. record p { line = f.line; exported = x }) is.exported
    ∙ ap (λ x. record p { line = f.line; exported = f.exported; name = x }) is.name
    ∙ ap (λ x. record p { line = f.line; exported = f.exported; name = f.name; result = x }) is.result
    ∙ ap (λ x. record p { line = f.line; exported = f.exported; name = f.name; result = f.result; params = x }) is.params
    ∙ ap (λ x. record p { line = f.line; exported = f.exported; name = f.name; result = f.result; params = f.params; temps = x }) is.temps
    ∙ ap (λ x. record p { line = f.line; exported = f.exported; name = f.name; result = f.result; params = f.params; temps = f.temps; labels = x }) is.labels
    ∙ ap (λ x. record (promoted_parts f) { blocks = x }) is.blocks

-- a function becomes one
pub one_promoted : (f g h : Func) → IsPromoted f g → IsPromoted f h → g ≡ h
one_promoted f g h is also = function_same g h (same_parts f g is ∙ sym (same_parts f h also))

-- ---- all functions

-- what the functions become, for which the words stand in
pub record Compiled (p : Program) (codes : List Words) (fs : List (InText Func)) : Type 0 where
  pub functions : List (InText Func)
  pub are : ArePromoted fs functions
  pub stand : (q : Program) → IsProgramPromoted p q → EachStandsIn q codes functions

pub compiled : (p : Program) (codes : List Words) (fs : List (InText Func)) → EachPromoted p codes fs → Compiled p codes fs
compiled p [] [] h = record { functions = []; are = tt; stand = λ q is. tt }
compiled p [] (f ∷ fs) h = absurd h
compiled p (c ∷ codes) [] h = absurd h
compiled p (c ∷ codes) (f ∷ fs) h =
    let rest = compiled p codes fs h.1 in
    record {
      functions = record { text = f.text; item = h.0.promoted } ∷ rest.functions;
      are = (refl, h.0.is, rest.are);
      stand = λ q is. (h.0.stand q is, rest.stand q is);
    }

-- the one in the place of a function
pub record Promoted (f : InText Func) (k : ℕ) (gs : List (InText Func)) : Type 0 where
  pub function : InText Func
  pub here : slice_get gs k ≡ Some function
  pub text : function.text ≡ f.text
  pub is : IsPromoted f.item function.item

pub promoted_at : (fs gs : List (InText Func)) (k : ℕ) (f : InText Func) → ArePromoted fs gs → slice_get fs k ≡ Some f → Promoted f k gs
promoted_at [] gs k f are h = absurd (let no : ⊥ = cc in no)
promoted_at (x ∷ fs) [] k f are h = absurd are
promoted_at (x ∷ fs) (g ∷ gs) zero f are h =
    let same : x ≡ f = cc in
    record { function = g; here = refl; text = are.0 ∙ ap (λ (y : InText Func). y.text) same; is = subst (λ (y : InText Func). IsPromoted y.item g.item) same are.1 }
promoted_at (x ∷ fs) (g ∷ gs) (suc k) f are h =
    let rest = promoted_at fs gs k f are.2 h in record { function = rest.function; here = rest.here; text = rest.text; is = rest.is }

pub as_many : (fs gs : List (InText Func)) → ArePromoted fs gs → length gs ≡ length fs
as_many [] [] h = refl
as_many [] (g ∷ gs) h = absurd h
as_many (f ∷ fs) [] h = absurd h
as_many (f ∷ fs) (g ∷ gs) h = ap suc (as_many fs gs h.2)

pub one_each : (p : Program) (codes : List Words) (fs : List (InText Func)) → EachPromoted p codes fs → length codes ≡ length fs
one_each p [] [] h = refl
one_each p [] (f ∷ fs) h = absurd h
one_each p (c ∷ codes) [] h = absurd h
one_each p (c ∷ codes) (f ∷ fs) h = ap suc (one_each p codes fs h.1)

-- ---- the program

pub is_promoted : (p : Program) (gs : List (InText Func)) → ArePromoted p.functions gs → IsProgramPromoted p (with_functions p gs)
is_promoted p gs are = record { targets = refl; functions = are; objects = refl; main = refl }

pub names_are_there : (p : Program) (gs : List (InText Func)) → ArePromoted p.functions gs → NamesAreThere p → NamesAreThere (with_functions p gs)
names_are_there p gs are has =
    let many : length p.functions ≡ length gs = sym (as_many p.functions gs are) in
    record {
      targets = λ t n targets target at found. subst (λ k. IsThere k (length p.objects) target) many (has.targets t n targets target at found);
      main = subst (λ k. p.main < k) many has.main;
    }

same_words : (a : Addresses) (targets : List (List Target)) (at : ℕ) (codes : List Words) (fs gs : List (InText Func)) → ArePromoted fs gs → functions_words a targets at codes fs ≡ functions_words a targets at codes gs
same_words a targets at [] fs gs h = refl
same_words a targets at (c ∷ codes) [] [] h = refl
same_words a targets at (c ∷ codes) [] (g ∷ gs) h = absurd h
same_words a targets at (c ∷ codes) (f ∷ fs) [] h = absurd h
same_words a targets at (c ∷ codes) (f ∷ fs) (g ∷ gs) h =
    ap (λ t. filled at (name_address a targets t) c.words c.holes ++ functions_words a targets (at + 4 * length c.words) codes fs) (sym h.0)
    ∙ ap (λ ws. filled at (name_address a targets g.text) c.words c.holes ++ ws) (same_words a targets (at + 4 * length c.words) codes fs gs h.2)

-- and their calls reach as they do
same_reach : (a : Addresses) (targets : List (List Target)) (at : ℕ) (codes : List Words) (fs gs : List (InText Func)) → ArePromoted fs gs → functions_reach a targets at codes fs ≡ functions_reach a targets at codes gs
same_reach a targets at [] fs gs h = refl
same_reach a targets at (c ∷ codes) [] [] h = refl
same_reach a targets at (c ∷ codes) [] (g ∷ gs) h = absurd h
same_reach a targets at (c ∷ codes) (f ∷ fs) [] h = absurd h
same_reach a targets at (c ∷ codes) (f ∷ fs) (g ∷ gs) h =
    ap (λ t. all_reach at (name_address a targets t) c.holes && functions_reach a targets (at + 4 * length c.words) codes fs) (sym h.0)
    ∙ ap (λ b. all_reach at (name_address a targets g.text) c.holes && b) (same_reach a targets (at + 4 * length c.words) codes fs gs h.2)

pub calls_still_reach : (p : Program) (codes : List Words) (gs : List (InText Func)) → ArePromoted p.functions gs → calls_reach p codes ≡ calls_reach (with_functions p gs) codes
calls_still_reach p codes gs are = same_reach (addresses_of p codes) p.targets functions_start codes p.functions gs are

-- words for functions of the same texts make the same image
pub same_contents : (p : Program) (codes : List Words) (gs : List (InText Func)) → ArePromoted p.functions gs → contents_of p codes ≡ contents_of (with_functions p gs) codes
same_contents p codes gs are =
    let a = addresses_of p codes in
    ap (λ ws. record (contents_of p codes) { code = start_words (callee_address a (Defined p.main)) ++ write_words ++ exit_words ++ ws })
    (same_words a p.targets functions_start codes p.functions gs are)
