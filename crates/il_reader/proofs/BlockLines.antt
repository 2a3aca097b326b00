-- One round of the loop that reads the lines of a block.
use Rattle.std.proofs.Common.{◌≡◌, ℕ, ◌+◌, ◌-◌, ◌<◌, Bool, true, false, cond, List, [], ◌∷◌, ◌++◌, Option, Some, None, refl, sym, ap, ◌∙◌, append_assoc, option_and_then}
use Rattle.il_ast.specs.declared.block.Phi.{Phi}
use Rattle.il_ast.specs.declared.instruction.Lined.{Lined}
use Rattle.il_ast.specs.declared.instruction.Inst.{Inst}
use Rattle.il_reader.specs.declared.statement.Statement.{Statement}
use Rattle.il_reader.specs.declared.statement.Statement.TheVariants.{Phi as PhiLine, Inst as InstLine}
use Rattle.il_reader.specs.Prelude.{State, Step, on_line, Lines, lines, statement, sees_statement, before_lines, with_phi, with_inst, with_lines, with_line, one_line}
use Rattle.il_reader.proofs.Rounds.{less_one}

phi_before : (phis : List Phi) (insts : List (Lined Inst)) (p : Phi) (o : Option (Lines × State))
    → with_lines phis insts (option_and_then (with_phi p) o) ≡ with_lines (phis ++ p ∷ []) insts o
phi_before phis insts p None = refl
phi_before phis insts p (Some x) = ap (λ ps. Some ((ps, insts ++ x.0.1), x.1)) (sym (append_assoc phis (p ∷ []) x.0.0))

inst_before : (phis : List Phi) (insts : List (Lined Inst)) (i : Lined Inst) (o : Option (Lines × State))
    → with_lines phis insts (option_and_then (with_inst i) o) ≡ with_lines phis (insts ++ i ∷ []) o
inst_before phis insts i None = refl
inst_before phis insts i (Some x) = ap (λ is. Some ((phis ++ x.0.0, is), x.1)) (sym (append_assoc insts (i ∷ []) x.0.1))

-- a line that is taken goes before the others
taken : (more : Bool → Step Lines) (begun : Bool) (phis : List Phi) (insts : List (Lined Inst)) (line : Statement) (s : State) (new : (Lines × Bool) × State)
    → one_line begun phis insts line s ≡ Some new
    → with_lines phis insts (before_lines more begun line s) ≡ with_lines new.0.0.0 new.0.0.1 (more new.0.1 new.1)
taken more true phis insts (PhiLine p) s new e = let h : None ≡ Some new = e in cc
taken more false phis insts (PhiLine p) s new e =
    let h : Some (((phis ++ p ∷ [], insts), false), s) ≡ Some new = e in
    let F = λ (x : (Lines × Bool) × State). with_lines x.0.0.0 x.0.0.1 (more x.0.1 x.1) in
    let same : (((phis ++ p ∷ [], insts), false), s) ≡ new = cc in
    phi_before phis insts p (more false s) ∙ ap F same
taken more begun phis insts (InstLine i) s new e =
    let h : Some (((phis, insts ++ i ∷ []), true), s) ≡ Some new = e in
    let F = λ (x : (Lines × Bool) × State). with_lines x.0.0.0 x.0.0.1 (more x.0.1 x.1) in
    let same : (((phis, insts ++ i ∷ []), true), s) ≡ new = cc in
    inst_before phis insts i (more true s) ∙ ap F same

line_taken : (more : Bool → Step Lines) (begun : Bool) (phis : List Phi) (insts : List (Lined Inst)) (o : Option (Statement × State)) (new : (Lines × Bool) × State)
    → with_line begun phis insts o ≡ Some new
    → with_lines phis insts (option_and_then (λ x. before_lines more begun x.0 x.1) o) ≡ with_lines new.0.0.0 new.0.0.1 (more new.0.1 new.1)
line_taken more begun phis insts None new e = let h : None ≡ Some new = e in cc
line_taken more begun phis insts (Some x) new e = taken more begun phis insts x.0 x.1 new e

refused : (more : Bool → Step Lines) (begun : Bool) (phis : List Phi) (insts : List (Lined Inst)) (line : Statement) (s : State)
    → one_line begun phis insts line s ≡ None → before_lines more begun line s ≡ None
refused more true phis insts (PhiLine p) s e = refl
refused more false phis insts (PhiLine p) s e = let h : Some (((phis ++ p ∷ [], insts), false), s) ≡ None = e in cc
refused more begun phis insts (InstLine i) s e = let h : Some (((phis, insts ++ i ∷ []), true), s) ≡ None = e in cc

line_refused : (more : Bool → Step Lines) (begun : Bool) (phis : List Phi) (insts : List (Lined Inst)) (o : Option (Statement × State))
    → with_line begun phis insts o ≡ None → option_and_then (λ x. before_lines more begun x.0 x.1) o ≡ None
line_refused more begun phis insts None e = refl
line_refused more begun phis insts (Some x) e = refused more begun phis insts x.0 x.1 e

pub lines_more : (n i : ℕ) (begun : Bool) (phis : List Phi) (insts : List (Lined Inst)) (s : State) (new : (Lines × Bool) × State)
    → i < n → sees_statement s ≡ true → with_line begun phis insts (on_line statement s) ≡ Some new
    → with_lines phis insts (lines (n - i) begun s) ≡ with_lines new.0.0.0 new.0.0.1 (lines (n - (i + 1)) new.0.1 new.1)
lines_more n i begun phis insts s new h l e =
    let k = n - (i + 1) in
    let read = λ (o : Option (Statement × State)). option_and_then (λ x. before_lines (lines k) begun x.0 x.1) o in
    ap (λ m. with_lines phis insts (lines m begun s)) (less_one n i h)
    ∙ ap (λ b. with_lines phis insts (cond b (read (on_line statement s)) (Some (([], []), s)))) l
    ∙ line_taken (lines k) begun phis insts (on_line statement s) new e

pub lines_refused : (n i : ℕ) (begun : Bool) (phis : List Phi) (insts : List (Lined Inst)) (s : State)
    → i < n → sees_statement s ≡ true → with_line begun phis insts (on_line statement s) ≡ None
    → lines (n - i) begun s ≡ None
lines_refused n i begun phis insts s h l e =
    let k = n - (i + 1) in
    let read = λ (o : Option (Statement × State)). option_and_then (λ x. before_lines (lines k) begun x.0 x.1) o in
    ap (λ m. lines m begun s) (less_one n i h)
    ∙ ap (λ b. cond b (read (on_line statement s)) (Some (([], []), s))) l
    ∙ line_refused (lines k) begun phis insts (on_line statement s) e

pub with_lines_none : (phis : List Phi) (insts : List (Lined Inst)) (o : Option (Lines × State)) → with_lines phis insts o ≡ None → o ≡ None
with_lines_none phis insts None e = refl
with_lines_none phis insts (Some x) e = let h : Some ((phis ++ x.0.0, insts ++ x.0.1), x.1) ≡ None = e in cc

pub lines_before_none : (o : Option (Lines × State)) → with_lines [] [] o ≡ o
lines_before_none None = refl
lines_before_none (Some x) = refl
