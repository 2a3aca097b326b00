-- What is mentioned, in the words of the tree.
use Rattle.std.proofs.Common.{◌≡◌, ℕ, List, [], ◌∷◌, ◌++◌, Option, Some, None, refl, ap, ◌∙◌, map, flat_map, append-nil}
use mathlib.Core.Path.{fun_ext}
use Rattle.il_ast.specs.Prelude.{temps_of, labels_of, temps_in_value, temps_in_phi, temps_in_inst, temps_in_jump, temps_at_end, temps_in_block, labels_in_jump, labels_at_end, labels_in_block, symbols_of, symbols_in_value, symbols_in_phi, symbols_in_inst, symbols_in_jump, symbols_at_end, symbols_in_block, symbols_in_item, symbols_in_field, symbols_in_definition}
use Rattle.il_ast.specs.declared.operand.Val.{Val}
use Rattle.il_ast.specs.declared.operand.Val.TheVariants.{Int, Temp, Global}
use Rattle.il_ast.specs.declared.operand.Arg.{Arg}
use Rattle.il_ast.specs.declared.instruction.Inst.{Inst}
use Rattle.il_ast.specs.declared.instruction.Inst.TheVariants.{Unary, Binary, Alloc, Store, Blit, Call}
use Rattle.il_ast.specs.declared.instruction.Jump.{Jump}
use Rattle.il_ast.specs.declared.instruction.Jump.TheVariants.{Goto, Branch, Return, Halt}
use Rattle.il_ast.specs.declared.instruction.Lined.{Lined}
use Rattle.il_ast.specs.declared.block.Phi.{Phi}
use Rattle.il_ast.specs.declared.block.PhiArg.{PhiArg}
use Rattle.il_ast.specs.declared.block.Block.{Block}
use Rattle.il_ast.specs.declared.datum.Item.{Item}
use Rattle.il_ast.specs.declared.datum.Item.TheVariants.{Int as NumberItem, Bytes, Address}
use Rattle.il_ast.specs.declared.datum.Field.{Field}
use Rattle.il_ast.specs.declared.datum.Field.TheVariants.{Items, Zeros}
use Rattle.il_ast.specs.declared.text.Definition.{Definition}
use Rattle.il_ast.specs.declared.text.Definition.TheVariants.{Function, Object}
use Rattle.il_reader.specs.Prelude.{FunctionParts, definition_parts}
use Rattle.il_reader.proofs.Mentioned.{in_maybe, in_value, in_argument, in_phi_argument, in_phi, in_inst, in_line, in_jump, in_end, in_block, in_parameter, in_item, in_field}
use Rattle.il_reader.proofs.Definers.{in_function, in_parts}
use Rattle.il_reader.proofs.Namings.{Temps, Labels, Symbols}

flat_map_none : {A : Type 0} (f : A → List ℕ) → ((x : A) → f x ≡ []) → (xs : List A) → flat_map f xs ≡ []
flat_map_none f e [] = refl
flat_map_none f e (x ∷ xs) = ap (λ ks. ks ++ flat_map f xs) (e x) ∙ flat_map_none f e xs

flat_map_same : {A : Type 0} (f g : A → List ℕ) → ((x : A) → f x ≡ g x) → (xs : List A) → flat_map f xs ≡ flat_map g xs
flat_map_same f g e xs = ap (λ h. flat_map h xs) (fun_ext e)

-- temporaries

temps_value : (v : Val) → in_value Temps v ≡ temps_in_value v
temps_value (Int n) = refl
temps_value (Temp t) = refl
temps_value (Global g) = refl

temps_phi : (p : Phi) → in_phi Temps p ≡ temps_in_phi p
temps_phi p = ap (λ ks. p.to.temp ∷ ks) (flat_map_same (in_phi_argument Temps) (λ a. temps_in_value a.value) (λ a. temps_value a.value) p.args)

temps_inst : (i : Inst) → in_inst Temps i ≡ temps_in_inst i
temps_inst (Unary to op a) = ap (λ ks. to.temp ∷ ks) (temps_value a)
temps_inst (Binary to op a b) = ap (λ ks. to.temp ∷ (ks ++ in_value Temps b)) (temps_value a) ∙ ap (λ ks. to.temp ∷ (temps_in_value a ++ ks)) (temps_value b)
temps_inst (Alloc to alignment size) = refl
temps_inst (Store size a at) = ap (λ ks. ks ++ in_value Temps at) (temps_value a) ∙ ap (λ ks. temps_in_value a ++ ks) (temps_value at)
temps_inst (Blit from to count) = ap (λ ks. ks ++ in_value Temps to) (temps_value from) ∙ ap (λ ks. temps_in_value from ++ ks) (temps_value to)
temps_inst (Call None callee args) =
    ap (λ ks. ks ++ flat_map (in_argument Temps) args) (temps_value callee)
    ∙ ap (λ ks. temps_in_value callee ++ ks) (flat_map_same (in_argument Temps) (λ a. temps_in_value a.value) (λ a. temps_value a.value) args)
temps_inst (Call (Some to) callee args) =
    ap (λ ks. to.temp ∷ (ks ++ flat_map (in_argument Temps) args)) (temps_value callee)
    ∙ ap (λ ks. to.temp ∷ (temps_in_value callee ++ ks)) (flat_map_same (in_argument Temps) (λ a. temps_in_value a.value) (λ a. temps_value a.value) args)

temps_jump : (j : Jump) → in_jump Temps j ≡ temps_in_jump j
temps_jump (Goto l) = refl
temps_jump (Branch a nonzero otherwise) = append-nil (in_value Temps a) ∙ temps_value a
temps_jump (Return None) = refl
temps_jump (Return (Some a)) = temps_value a
temps_jump Halt = refl

temps_end : (o : Option (Lined Jump)) → in_maybe (in_end Temps) o ≡ temps_at_end o
temps_end None = refl
temps_end (Some j) = temps_jump j.item

temps_block : (b : Block) → in_block Temps b ≡ temps_in_block b
temps_block b =
    ap (λ ks. ks ++ (flat_map (in_line Temps) b.insts ++ in_maybe (in_end Temps) b.jump)) (flat_map_same (in_phi Temps) temps_in_phi temps_phi b.phis)
    ∙ ap (λ ks. flat_map temps_in_phi b.phis ++ (ks ++ in_maybe (in_end Temps) b.jump)) (flat_map_same (in_line Temps) (λ i. temps_in_inst i.item) (λ i. temps_inst i.item) b.insts)
    ∙ ap (λ ks. flat_map temps_in_phi b.phis ++ (flat_map (λ i. temps_in_inst i.item) b.insts ++ ks)) (temps_end b.jump)

pub temps_function : (p : FunctionParts) → in_function Temps p ≡ temps_of p.params p.blocks
temps_function p = ap (λ ks. flat_map (in_parameter Temps) p.params ++ ks) (flat_map_same (in_block Temps) temps_in_block temps_block p.blocks)

-- labels

labels_value : (v : Val) → in_value Labels v ≡ []
labels_value (Int n) = refl
labels_value (Temp t) = refl
labels_value (Global g) = refl

labels_phi : (p : Phi) → in_phi Labels p ≡ flat_map (λ (a : PhiArg). a.from ∷ []) p.args
labels_phi p = flat_map_same (in_phi_argument Labels) (λ a. a.from ∷ []) (λ a. ap (λ ks. a.from ∷ ks) (labels_value a.value)) p.args

labels_inst : (i : Inst) → in_inst Labels i ≡ []
labels_inst (Unary to op a) = labels_value a
labels_inst (Binary to op a b) = ap (λ ks. ks ++ in_value Labels b) (labels_value a) ∙ labels_value b
labels_inst (Alloc to alignment size) = refl
labels_inst (Store size a at) = ap (λ ks. ks ++ in_value Labels at) (labels_value a) ∙ labels_value at
labels_inst (Blit from to count) = ap (λ ks. ks ++ in_value Labels to) (labels_value from) ∙ labels_value to
labels_inst (Call None callee args) = ap (λ ks. ks ++ flat_map (in_argument Labels) args) (labels_value callee) ∙ flat_map_none (in_argument Labels) (λ a. labels_value a.value) args
labels_inst (Call (Some to) callee args) = ap (λ ks. ks ++ flat_map (in_argument Labels) args) (labels_value callee) ∙ flat_map_none (in_argument Labels) (λ a. labels_value a.value) args

labels_jump : (j : Jump) → in_jump Labels j ≡ labels_in_jump j
labels_jump (Goto l) = refl
labels_jump (Branch a nonzero otherwise) = ap (λ ks. ks ++ nonzero ∷ otherwise ∷ []) (labels_value a)
labels_jump (Return None) = refl
labels_jump (Return (Some a)) = labels_value a
labels_jump Halt = refl

labels_end : (o : Option (Lined Jump)) → in_maybe (in_end Labels) o ≡ labels_at_end o
labels_end None = refl
labels_end (Some j) = labels_jump j.item

labels_block : (b : Block) → in_block Labels b ≡ labels_in_block b
labels_block b =
    ap (λ ks. b.label ∷ (ks ++ (flat_map (in_line Labels) b.insts ++ in_maybe (in_end Labels) b.jump)))
    (flat_map_same (in_phi Labels) (λ p. flat_map (λ (a : PhiArg). a.from ∷ []) p.args) labels_phi b.phis)
    ∙ ap (λ ks. b.label ∷ (flat_map (λ (p : Phi). flat_map (λ (a : PhiArg). a.from ∷ []) p.args) b.phis ++ (ks ++ in_maybe (in_end Labels) b.jump)))
    (flat_map_none (in_line Labels) (λ i. labels_inst i.item) b.insts)
    ∙ ap (λ ks. b.label ∷ (flat_map (λ (p : Phi). flat_map (λ (a : PhiArg). a.from ∷ []) p.args) b.phis ++ ks)) (labels_end b.jump)

pub labels_function : (p : FunctionParts) → in_function Labels p ≡ labels_of p.blocks
labels_function p =
    ap (λ ks. ks ++ flat_map (in_block Labels) p.blocks) (flat_map_none (in_parameter Labels) (λ x. refl) p.params)
    ∙ flat_map_same (in_block Labels) labels_in_block labels_block p.blocks

-- global names

symbols_value : (v : Val) → in_value Symbols v ≡ symbols_in_value v
symbols_value (Int n) = refl
symbols_value (Temp t) = refl
symbols_value (Global g) = refl

symbols_phi : (p : Phi) → in_phi Symbols p ≡ symbols_in_phi p
symbols_phi p = flat_map_same (in_phi_argument Symbols) (λ a. symbols_in_value a.value) (λ a. symbols_value a.value) p.args

symbols_call : (callee : Val) (args : List Arg) → in_value Symbols callee ++ flat_map (in_argument Symbols) args ≡ symbols_in_value callee ++ flat_map (λ (a : Arg). symbols_in_value a.value) args
symbols_call callee args =
    ap (λ ks. ks ++ flat_map (in_argument Symbols) args) (symbols_value callee)
    ∙ ap (λ ks. symbols_in_value callee ++ ks) (flat_map_same (in_argument Symbols) (λ a. symbols_in_value a.value) (λ a. symbols_value a.value) args)

symbols_two : (a b : Val) → in_value Symbols a ++ in_value Symbols b ≡ symbols_in_value a ++ symbols_in_value b
symbols_two a b = ap (λ ks. ks ++ in_value Symbols b) (symbols_value a) ∙ ap (λ ks. symbols_in_value a ++ ks) (symbols_value b)

symbols_inst : (i : Inst) → in_inst Symbols i ≡ symbols_in_inst i
symbols_inst (Unary to op a) = symbols_value a
symbols_inst (Binary to op a b) = symbols_two a b
symbols_inst (Alloc to alignment size) = refl
symbols_inst (Store size a at) = symbols_two a at
symbols_inst (Blit from to count) = symbols_two from to
symbols_inst (Call None callee args) = symbols_call callee args
symbols_inst (Call (Some to) callee args) = symbols_call callee args

symbols_jump : (j : Jump) → in_jump Symbols j ≡ symbols_in_jump j
symbols_jump (Goto l) = refl
symbols_jump (Branch a nonzero otherwise) = append-nil (in_value Symbols a) ∙ symbols_value a
symbols_jump (Return None) = refl
symbols_jump (Return (Some a)) = symbols_value a
symbols_jump Halt = refl

symbols_end : (o : Option (Lined Jump)) → in_maybe (in_end Symbols) o ≡ symbols_at_end o
symbols_end None = refl
symbols_end (Some j) = symbols_jump j.item

symbols_block : (b : Block) → in_block Symbols b ≡ symbols_in_block b
symbols_block b =
    ap (λ ks. ks ++ (flat_map (in_line Symbols) b.insts ++ in_maybe (in_end Symbols) b.jump)) (flat_map_same (in_phi Symbols) symbols_in_phi symbols_phi b.phis)
    ∙ ap (λ ks. flat_map symbols_in_phi b.phis ++ (ks ++ in_maybe (in_end Symbols) b.jump)) (flat_map_same (in_line Symbols) (λ i. symbols_in_inst i.item) (λ i. symbols_inst i.item) b.insts)
    ∙ ap (λ ks. flat_map symbols_in_phi b.phis ++ (flat_map (λ i. symbols_in_inst i.item) b.insts ++ ks)) (symbols_end b.jump)

symbols_item : (x : Item) → in_item Symbols x ≡ symbols_in_item x
symbols_item (NumberItem n) = refl
symbols_item (Bytes bytes) = refl
symbols_item (Address g offset) = refl

symbols_field : (x : Field) → in_field Symbols x ≡ symbols_in_field x
symbols_field (Items size xs) = flat_map_same (in_item Symbols) symbols_in_item symbols_item xs
symbols_field (Zeros n) = refl

symbols_definition : (d : Definition) → in_parts Symbols (definition_parts d) ≡ symbols_in_definition d
symbols_definition (Function f) =
    ap (λ ks. f.name ∷ (ks ++ flat_map (in_block Symbols) f.blocks)) (flat_map_none (in_parameter Symbols) (λ x. refl) f.params)
    ∙ ap (λ ks. f.name ∷ ks) (flat_map_same (in_block Symbols) symbols_in_block symbols_block f.blocks)
symbols_definition (Object d) = ap (λ ks. d.name ∷ ks) (flat_map_same (in_field Symbols) symbols_in_field symbols_field d.fields)

pub symbols_all : (ds : List Definition) → flat_map (in_parts Symbols) (map definition_parts ds) ≡ symbols_of ds
symbols_all [] = refl
symbols_all (d ∷ ds) = ap (λ ks. ks ++ flat_map (in_parts Symbols) (map definition_parts ds)) (symbols_definition d) ∙ ap (λ ks. symbols_in_definition d ++ ks) (symbols_all ds)
