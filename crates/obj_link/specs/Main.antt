-- The function that a program begins with.
use Rattle.std.specs.Prelude.{◌≡◌, ℕ, Bool, true, false, ◌&&◌, if◌then◌else◌, List, [], ◌∷◌, slice_get, Option, Some, None, codes}
use Rattle.il_ast.specs.declared.operation.Class.{Class}
use Rattle.il_ast.specs.declared.operation.Class.TheVariants.{W, L}
use Rattle.il_ast.specs.declared.function.Param.{Param}
use Rattle.il_ast.specs.declared.function.Func.{Func}
use Rattle.il_ast.specs.declared.program.InText.{InText}
use Rattle.il_ast.specs.declared.program.Target.{Target}
use Rattle.il_ast.specs.declared.program.Target.TheVariants.{Code, Object}
use Rattle.il_ast.specs.declared.value.Callee.TheVariants.{Defined, SystemWrite, SystemExit}
use Rattle.il_ast.specs.Prelude.{same_class}
use Rattle.il_types.specs.declared.checked.Checked.{Checked}
use Rattle.obj_link.specs.Names.{functions_of, names_of, symbol_name, visible}

-- no parameters, or the number of the argument words and the list of them
abbrev pub takes_words : List Param → Bool
takes_words [] = true
takes_words (x ∷ []) = false
takes_words (x ∷ y ∷ []) = same_class x.class W && same_class y.class L
takes_words (x ∷ y ∷ z ∷ rest) = false

abbrev pub gives_word : Option Class → Bool
gives_word None = false
gives_word (Some c) = same_class c W

-- `w ()` or `w (w, l)`
abbrev pub is_main : Func → Bool
is_main f = gives_word f.result && takes_words f.params

abbrev pub main_at : ℕ → Option (InText Func) → Option ℕ
main_at k None = None
main_at k (Some f) = if is_main f.item then Some k else None

-- the number of the function that the name `main` means
abbrev pub main_in : List (InText Func) → Option Target → Option ℕ
main_in functions (Some (Code (Defined k))) = main_at k (slice_get functions k)
main_in functions (Some (Code SystemWrite)) = None
main_in functions (Some (Code SystemExit)) = None
main_in functions (Some (Object k)) = None
main_in functions None = None

abbrev pub main_of : List Checked → Option ℕ
main_of texts = main_in (functions_of texts) (visible texts (names_of texts) (codes "main"))

-- the function is exported as `main`, in one of the two forms
pub record IsMain (texts : List Checked) (f : InText Func) : Type 0 where
  pub exported : f.item.exported ≡ true
  pub name : symbol_name texts f.text f.item.name ≡ codes "main"
  pub form : is_main f.item ≡ true

-- some function of the texts is
abbrev pub ExportsMain : List Checked → Type 0
ExportsMain texts =
    (k : ℕ) × (f : InText Func) × (slice_get (functions_of texts) k ≡ Some f) × IsMain texts f
