-- Texts, as bytes, are at most one program, and no refusal is true of one.
use Rattle.std.proofs.Common.{◌≡◌, inl, inr, ℕ, zero, suc, List, [], ◌∷◌, refl, sym, ◌∙◌, ap, subst, arith, slice_get, Some}
use Rattle.il_ast.specs.declared.program.Program.{Program}
use Rattle.il_reader.specs.Prelude.{Reads}
use Rattle.il_reader.proofs.OneTree.{one_tree}
use Rattle.il_types.specs.declared.checked.Checked.{Checked}
use Rattle.il_types.specs.Prelude.{broken, within_limits as is_within}
use Rattle.obj_link.specs.Prelude.{IsProgram}
use Rattle.obj_link.proofs.MainLemmas.{main_is}
use Rattle.obj_link.proofs.ProgramLemmas.{one_program, unknown_none}
use Rattle.qbec.specs.declared.error.CompileError.{CompileError}
use Rattle.qbec.specs.declared.error.CompileError.TheVariants.{Syntax, Rule, UnknownName, ExportedTwice, NoMain, Limit, Memory}
use Rattle.qbec.specs.Refusals.{AreTexts, AreProgram, PassesLimit, Refuses}
use Rattle.qbec.proofs.TextLemmas.{same_checked}

-- ---- what texts are

same_texts : (texts : List (List ℕ)) (a b : List Checked) → AreTexts texts a → AreTexts texts b → a ≡ b
same_texts [] [] [] h k = refl
same_texts [] [] (d ∷ b) h k = absurd k
same_texts [] (c ∷ a) b h k = absurd h
same_texts (t ∷ texts) [] b h k = absurd h
same_texts (t ∷ texts) (c ∷ a) [] h k = absurd k
same_texts (t ∷ texts) (c ∷ a) (d ∷ b) h k =
    ap (λ (x : Checked). x ∷ a) (same_checked c d (one_tree t c.text d.text h.0 k.0)) ∙ ap (λ xs. d ∷ xs) (same_texts texts a b h.1 k.1)

pub one_program_of : (texts : List (List ℕ)) (p q : Program) → AreProgram texts p → AreProgram texts q → p ≡ q
one_program_of texts p q g h =
    one_program g.checked p q g.is (subst (λ xs. IsProgram xs q) (same_texts texts h.checked g.checked h.are g.are) h.is)

-- ---- what is said of one of them

tree_at : (texts : List (List ℕ)) (all : List Checked) (k : ℕ) (bytes : List ℕ) → AreTexts texts all → slice_get texts k ≡ Some bytes → (c : Checked) × Reads bytes c.text
tree_at [] all zero bytes h at = cc
tree_at [] all (suc k) bytes h at = cc
tree_at (t ∷ texts) [] k bytes h at = absurd h
tree_at (t ∷ texts) (c ∷ all) zero bytes h at = let same : t ≡ bytes = cc in (c, subst (λ b. Reads b c.text) same h.0)
tree_at (t ∷ texts) (c ∷ all) (suc k) bytes h at = tree_at texts all k bytes h.1 at

no_limit : (texts : List (List ℕ)) (all : List Checked) (k : ℕ) (bytes : List ℕ) → AreTexts texts all → slice_get texts k ≡ Some bytes → PassesLimit bytes → ⊥
no_limit texts all k bytes h at passes =
    let tree = tree_at texts all k bytes h at in
    let good = tree.0.good.limits in
    let same = one_tree bytes tree.0.text passes.0 tree.1 passes.1 in
    let within = ap is_within same in
    let not_within = passes.2 in
    cc

-- ---- no refusal is true of a program

pub no_refusal : (texts : List (List ℕ)) (p : Program) (e : CompileError) → AreProgram texts p → Refuses e texts → e ≡ Memory
no_refusal texts p (Syntax text line) is h =
    let tree = tree_at texts is.checked h.0 h.1 is.are h.3 in
    absurd (h.4.2 tree.0.text tree.1)
no_refusal texts p (Rule text fault) is h =
    let tree = tree_at texts is.checked h.0 h.1 is.are h.3 in
    let good = tree.0.good.rules fault.rule in
    let same = one_tree h.1 tree.0.text h.4.0 tree.1 h.4.1 in
    let kept = ap (broken fault.rule) same in
    let fails = h.4.2 in
    cc
no_refusal texts p (UnknownName name) is h =
    let here = same_texts texts h.0 is.checked h.1 is.are in
    let none = unknown_none h.0 name.items h.2 in
    let found = (subst (λ xs. IsProgram xs p) (sym here) is.is).targets in
    cc
no_refusal texts p (ExportedTwice name) is h =
    let here = same_texts texts h.0 is.checked h.1 is.are in
    let once = (subst (λ xs. IsProgram xs p) (sym here) is.is).once name.items in
    let twice = h.2 in
    absurd (omega (arith, once, twice))
no_refusal texts p NoMain is h =
    let here = same_texts texts h.0 is.checked h.1 is.are in
    let main = main_is h.0 p.main (subst (λ xs. IsProgram xs p) (sym here) is.is).main in
    absurd (h.2 (p.main, main.0, main.1, main.2))
no_refusal texts p Limit is (inl h) = absurd (no_limit texts is.checked h.1.0 h.1.1 is.are h.1.3 h.1.4)
no_refusal texts p Limit is (inr h) =
    let here = same_texts texts h.0 is.checked h.1 is.are in
    let within = (subst (λ xs. IsProgram xs p) (sym here) is.is).limits in
    let not_within = h.2 in
    cc
no_refusal texts p Memory is h = refl
