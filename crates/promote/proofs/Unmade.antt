-- A function that makes no block of memory is promoted as it is.
use Rattle.std.proofs.Common.{◌≡◌, ℕ, Bool, true, false, ◌&&◌, cond, List, [], ◌∷◌, ◌++◌, map, nat_eq, refl, sym, ◌∙◌, ap, Option, Some, None}
use Rattle.std.specs.List.{flat_map, list_all, find}
use Rattle.std.proofs.Math.Path.{fun_ext}
use Rattle.il_ast.specs.declared.operation.Class.{Class}
use Rattle.il_ast.specs.declared.operation.Class.TheVariants.{W, L}
use Rattle.il_ast.specs.declared.operation.Size.TheVariants.{Byte, Half, Word, Long}
use Rattle.il_ast.specs.declared.operation.UnaryOp.{UnaryOp}
use Rattle.il_ast.specs.declared.operation.UnaryOp.TheVariants.{Neg, Copy, Extend, LoadLong, Load}
use Rattle.il_ast.specs.declared.operand.Val.{Val}
use Rattle.il_ast.specs.declared.operand.Val.TheVariants.{Int, Temp, Global}
use Rattle.il_ast.specs.declared.operand.Dest.{Dest}
use Rattle.il_ast.specs.declared.operand.Arg.{Arg}
use Rattle.il_ast.specs.declared.instruction.Inst.{Inst}
use Rattle.il_ast.specs.declared.instruction.Inst.TheVariants.{Unary, Binary, Alloc, Store, Blit, Call}
use Rattle.il_ast.specs.declared.instruction.Jump.{Jump}
use Rattle.il_ast.specs.declared.instruction.Jump.TheVariants.{Goto, Branch, Return, Halt}
use Rattle.il_ast.specs.declared.instruction.Lined.{Lined}
use Rattle.il_ast.specs.declared.block.Phi.{Phi}
use Rattle.il_ast.specs.declared.block.PhiArg.{PhiArg}
use Rattle.il_ast.specs.declared.block.Block.{Block}
use Rattle.il_ast.specs.declared.function.Param.{Param}
use Rattle.il_ast.specs.declared.function.Func.{Func}
use Rattle.il_types.specs.Prelude.{is_alloc}
use Rattle.promote.specs.declared.mention.Role.{Role}
use Rattle.promote.specs.declared.mention.Role.TheVariants.{Made, Accessed, Used}
use Rattle.promote.specs.declared.mention.Mention.{Mention}
use Rattle.promote.specs.Uses.{value_mentions, operand_role, destination_mentions, arg_mentions, item_mentions, inst_mentions, jump_mentions, end_mentions, phi_arg_mentions, phi_mentions, block_mentions, param_mentions, mentions_of, roles, suits, begins_made, is_promotable, width_in, Widths, promoted, promoted_line, promoted_block, IsPromoted, makes, makes_any}
use Rattle.std.proofs.lemmas.Bool.{or_parts}

-- ---- mentions of which none makes its temporary

abbrev quiet : Role → Bool
quiet Made = false
quiet (Accessed s) = true
quiet Used = true

abbrev AllQuiet : List Mention → Type 0
AllQuiet [] = Unit {0}
AllQuiet (m ∷ ms) = (quiet m.role ≡ true) × AllQuiet ms

quiet_both : (ms ns : List Mention) → AllQuiet ms → AllQuiet ns → AllQuiet (ms ++ ns)
quiet_both [] ns g h = h
quiet_both (m ∷ ms) ns g h = (g.0, quiet_both ms ns g.1 h)

quiet_flat : {X : Type 0} (f : X → List Mention) → ((x : X) → AllQuiet (f x)) → (xs : List X) → AllQuiet (flat_map f xs)
quiet_flat f h [] = tt
quiet_flat f h (x ∷ xs) = quiet_both (f x) (flat_map f xs) (h x) (quiet_flat f h xs)

quiet_value : (r : Role) (a : Val) → quiet r ≡ true → AllQuiet (value_mentions r a)
quiet_value r (Int n) h = tt
quiet_value r (Temp t) h = (h, tt)
quiet_value r (Global g) h = tt

used : (a : Val) → AllQuiet (value_mentions Used a)
used a = quiet_value Used a refl

quiet_operand : (op : UnaryOp) (c : Class) → quiet (operand_role op c) ≡ true
quiet_operand Neg c = refl
quiet_operand Copy c = refl
quiet_operand (Extend e) c = refl
quiet_operand LoadLong W = refl
quiet_operand LoadLong L = refl
quiet_operand (Load e) c = refl

quiet_destination : (to : Option Dest) → AllQuiet (destination_mentions to)
quiet_destination None = tt
quiet_destination (Some to) = (refl, tt)

quiet_item : (i : Inst) → is_alloc i ≡ false → AllQuiet (item_mentions i)
quiet_item (Unary to op a) h = (refl, quiet_value (operand_role op to.class) a (quiet_operand op to.class))
quiet_item (Binary to op a b) h = (refl, quiet_both (value_mentions Used a) (value_mentions Used b) (used a) (used b))
quiet_item (Alloc to alignment size) h = absurd (let no : ⊥ = cc in no)
quiet_item (Store size a at) h = quiet_both (value_mentions Used a) (value_mentions (Accessed size) at) (used a) (quiet_value (Accessed size) at refl)
quiet_item (Blit from to count) h = quiet_both (value_mentions Used from) (value_mentions Used to) (used from) (used to)
quiet_item (Call to callee args) h =
    quiet_both (destination_mentions to) (value_mentions Used callee ++ flat_map arg_mentions args) (quiet_destination to)
    (quiet_both (value_mentions Used callee) (flat_map arg_mentions args) (used callee) (quiet_flat arg_mentions (λ (a : Arg). used a.value) args))

quiet_insts : (is : List (Lined Inst)) → makes is ≡ false → AllQuiet (flat_map inst_mentions is)
quiet_insts [] h = tt
quiet_insts (i ∷ is) h =
    let both = or_parts (is_alloc i.item) (makes is) h in
    quiet_both (item_mentions i.item) (flat_map inst_mentions is) (quiet_item i.item both.0) (quiet_insts is both.1)

quiet_jump : (j : Jump) → AllQuiet (jump_mentions j)
quiet_jump (Goto l) = tt
quiet_jump (Branch a nonzero otherwise) = used a
quiet_jump (Return None) = tt
quiet_jump (Return (Some a)) = used a
quiet_jump Halt = tt

quiet_end : (j : Option (Lined Jump)) → AllQuiet (end_mentions j)
quiet_end None = tt
quiet_end (Some j) = quiet_jump j.item

quiet_phi : (p : Phi) → AllQuiet (phi_mentions p)
quiet_phi p = (refl, quiet_flat phi_arg_mentions (λ (a : PhiArg). used a.value) p.args)

quiet_block : (b : Block) → makes b.insts ≡ false → AllQuiet (block_mentions b)
quiet_block b h =
    quiet_both (flat_map phi_mentions b.phis) (flat_map inst_mentions b.insts ++ end_mentions b.jump) (quiet_flat phi_mentions quiet_phi b.phis)
    (quiet_both (flat_map inst_mentions b.insts) (end_mentions b.jump) (quiet_insts b.insts h) (quiet_end b.jump))

quiet_blocks : (bs : List Block) → makes_any bs ≡ false → AllQuiet (flat_map block_mentions bs)
quiet_blocks [] h = tt
quiet_blocks (b ∷ bs) h =
    let both = or_parts (makes b.insts) (makes_any bs) h in
    quiet_both (block_mentions b) (flat_map block_mentions bs) (quiet_block b both.0) (quiet_blocks bs both.1)

quiet_function : (f : Func) → makes_any f.blocks ≡ false → AllQuiet (mentions_of f)
quiet_function f h =
    quiet_both (flat_map param_mentions f.params) (flat_map block_mentions f.blocks) (quiet_flat param_mentions (λ (p : Param). (refl, tt)) f.params)
    (quiet_blocks f.blocks h)

-- ---- so no temporary is promoted

begins_quiet : (b : Bool) (r : Role) (rs : List Role) → quiet r ≡ true → begins_made rs ≡ false → begins_made (cond b (r ∷ rs) rs) ≡ false
begins_quiet false r rs g h = h
begins_quiet true Made rs g h = cc
begins_quiet true (Accessed s) rs g h = refl
begins_quiet true Used rs g h = refl

unmade : (t : ℕ) (ms : List Mention) → AllQuiet ms → begins_made (roles t ms) ≡ false
unmade t [] h = refl
unmade t (m ∷ ms) h = begins_quiet (nat_eq m.temp t) m.role (roles t ms) h.0 (unmade t ms h.1)

no_width : (rs : List Role) → begins_made rs ≡ false → find (λ s. is_promotable s rs) (Byte ∷ Half ∷ Word ∷ Long ∷ []) ≡ None
no_width rs h = ap (λ b. find (λ s. b && list_all (suits s) rs) (Byte ∷ Half ∷ Word ∷ Long ∷ [])) h

abbrev nowhere : Widths
nowhere t = None

no_widths : (f : Func) → makes_any f.blocks ≡ false → width_in (mentions_of f) ≡ nowhere
no_widths f h = fun_ext (λ t. no_width (roles t (mentions_of f)) (unmade t (mentions_of f) (quiet_function f h)))

-- ---- and everything stays

same_item : (i : Inst) → promoted nowhere i ≡ i
same_item (Unary to op (Int n)) = refl
same_item (Unary to op (Temp t)) = refl
same_item (Unary to op (Global g)) = refl
same_item (Binary to op a b) = refl
same_item (Alloc to alignment size) = refl
same_item (Store size a (Int n)) = refl
same_item (Store size a (Temp t)) = refl
same_item (Store size a (Global g)) = refl
same_item (Blit from to count) = refl
same_item (Call to callee args) = refl

same_lines : (is : List (Lined Inst)) → map (promoted_line nowhere) is ≡ is
same_lines [] = refl
same_lines (i ∷ is) =
    ap (λ (x : Inst). record { line = i.line; item = x } ∷ map (promoted_line nowhere) is) (same_item i.item) ∙ ap (λ ys. i ∷ ys) (same_lines is)

same_block : (b : Block) → promoted_block nowhere b ≡ b
same_block b =
    ap (λ (is : List (Lined Inst)). record { line = b.line; label = b.label; phis = b.phis; insts = is; jump = b.jump }) (same_lines b.insts)

same_blocks : (bs : List Block) → map (promoted_block nowhere) bs ≡ bs
same_blocks [] = refl
same_blocks (b ∷ bs) =
    ap (λ c. c ∷ map (promoted_block nowhere) bs) (same_block b) ∙ ap (λ cs. b ∷ cs) (same_blocks bs)

pub stays : (f : Func) → makes_any f.blocks ≡ false → IsPromoted f f
stays f h =
    record {
      line = refl;
      exported = refl;
      name = refl;
      result = refl;
      params = refl;
      temps = refl;
      labels = refl;
      blocks = sym (ap (λ w. map (promoted_block w) f.blocks) (no_widths f h) ∙ same_blocks f.blocks);
    }
