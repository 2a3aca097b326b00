-- Words without `jal` to functions reach all that they call.
use Rattle.std.proofs.Common.{◌≡◌, ℕ, ◌+◌, ◌*◌, true, List, [], ◌∷◌, ◌++◌, length, refl}
use Rattle.std.specs.List.{list_all}
use Rattle.std.proofs.lemmas.Bool.{and_parts, and_from}
use Rattle.il_ast.specs.declared.function.Func.{Func}
use Rattle.il_ast.specs.declared.program.InText.{InText}
use Rattle.il_ast.specs.declared.program.Program.{Program}
use Rattle.il_ast.specs.declared.program.Target.{Target}
use Rattle.rv_isa.specs.Prelude.{all_reach, named, reaches, Words}
use Rattle.rv_isa.specs.declared.code.Hole.{Hole}
use Rattle.rv_isa.specs.declared.relocation.Filling.{Filling}
use Rattle.rv_isa.specs.declared.relocation.Filling.TheVariants.{Part, Call}
use Rattle.asm_layout.specs.Forms.{is_part, HaveForm}
use Rattle.asm_layout.specs.declared.call.CallForm.{CallForm}
use Rattle.asm_layout.specs.declared.call.CallForm.TheVariants.{Far}
use Rattle.obj_link.specs.declared.placing.addresses.Addresses.{Addresses}
use Rattle.obj_link.specs.Prelude.{functions_start, name_address, functions_reach, addresses_of, calls_reach}
use Rattle.qbec.specs.Pipeline.{AllHaveForm}

pub one_more_form : (form : CallForm) (codes : List Words) (c : Words) → AllHaveForm form codes → HaveForm form c.holes → AllHaveForm form (codes ++ c ∷ [])
one_more_form form [] c h k = (k, tt)
one_more_form form (d ∷ codes) c h k = (h.0, one_more_form form codes c h.1 k)

part_reaches : (x : Filling) (p a : ℕ) → is_part x ≡ true → reaches x p a ≡ true
part_reaches (Part r) p a h = refl
part_reaches (Call n) p a h = absurd (let no : ⊥ = cc in no)

parts_reach : (at : ℕ) (global : ℕ → ℕ) (hs : List Hole) → list_all (λ h. is_part h.filling) hs ≡ true → all_reach at global hs ≡ true
parts_reach at global [] h = refl
parts_reach at global (x ∷ hs) h =
    let both = and_parts (is_part x.filling) (list_all (λ y. is_part y.filling) hs) h in
    and_from (reaches x.filling (at + 4 * x.word) (global (named x.filling))) (all_reach at global hs)
    (part_reaches x.filling (at + 4 * x.word) (global (named x.filling)) both.0) (parts_reach at global hs both.1)

far_functions_reach : (a : Addresses) (targets : List (List Target)) (at : ℕ) (codes : List Words) (fs : List (InText Func)) → AllHaveForm Far codes → functions_reach a targets at codes fs ≡ true
far_functions_reach a targets at [] fs h = refl
far_functions_reach a targets at (c ∷ codes) [] h = refl
far_functions_reach a targets at (c ∷ codes) (f ∷ fs) h =
    and_from (all_reach at (name_address a targets f.text) c.holes) (functions_reach a targets (at + 4 * length c.words) codes fs)
    (parts_reach at (name_address a targets f.text) c.holes h.0) (far_functions_reach a targets (at + 4 * length c.words) codes fs h.1)

pub far_calls_reach : (p : Program) (codes : List Words) → AllHaveForm Far codes → calls_reach p codes ≡ true
far_calls_reach p codes h = far_functions_reach (addresses_of p codes) p.targets functions_start codes p.functions h
