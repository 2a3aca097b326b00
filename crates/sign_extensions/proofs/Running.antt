-- The code with copies follows the code: marked registers hold whole words, and its registers hold at least as much, since a copy takes also what has no extension.
use Rattle.std.proofs.Common.{◌≡◌, ℕ, ◌%◌, ◌^◌, Bool, true, false, not, ◌&&◌, ◌||◌, nat_eq, if◌then◌else◌, List, [], ◌∷◌, map, length, Option, Some, None, slice_get, refl, sym, ◌∙◌, ap, subst, arith, option_map, option_and_then}
use Rattle.std.specs.List.{list_all}
use Rattle.std.proofs.lemmas.Bool.Decides.{nat_tests}
use Rattle.std.proofs.lemmas.Option.{slice_get-map}
use Rattle.std.proofs.lemmas.Bool.{and_parts, eq-eqb}
use Rattle.bits.specs.Words.{sign_extended}
use Rattle.il_ast.specs.declared.operation.Class.{Class}
use Rattle.il_ast.specs.declared.operation.Class.TheVariants.{W, L}
use Rattle.il_ast.specs.declared.value.Value.{Value}
use Rattle.il_ast.specs.declared.value.Value.TheVariants.{Integer, Pointer, Function}
use Rattle.il_ast.specs.Prelude.{in_place, Memory, KeepsCode}
use Rattle.rv_isa.specs.declared.instruction.RegWOp.TheVariants.{Addw, Subw, Sllw, Srlw, Sraw, Mulw, Divw, Divuw, Remw, Remuw}
use Rattle.vcode.specs.declared.place.Operand.{Operand}
use Rattle.vcode.specs.declared.place.Operand.TheVariants.{At, Number, Name}
use Rattle.vcode.specs.declared.place.Destination.{Destination}
use Rattle.vcode.specs.declared.place.Argument.{Argument}
use Rattle.vcode.specs.declared.place.Extension.{Extension}
use Rattle.vcode.specs.declared.place.Extension.TheVariants.{Made, Claimed}
use Rattle.vcode.specs.declared.line.Line.{Line}
use Rattle.vcode.specs.declared.line.Line.TheVariants.{Tick, Set, Operate, Load, Store, Alloc, Blit, Call}
use Rattle.vcode.specs.declared.line.Jump.{Jump}
use Rattle.vcode.specs.declared.line.Jump.TheVariants.{Goto, Branch, Return, Halt}
use Rattle.vcode.specs.declared.line.Operation.{Operation}
use Rattle.vcode.specs.declared.line.Operation.TheVariants.{Reg, RegW, Compare}
use Rattle.vcode.specs.declared.code.Block.{Block}
use Rattle.vcode.specs.declared.code.Code.{Code}
use Rattle.vcode.specs.Prelude.{held, passed, operate, loaded, Values, unknown, put, virtual, classes_in, bound, begin, value_of, read_argument, read_all, operated, address_of, step, line_writes, Act, Asks, given, asked, act, written, Way, Lost, Enters, Answers, Halts, answering, way, Claims, Alike, Arrives, LeadAlike, Follows as CodeFollows, Jumps, Both, Rewrites}
use Rattle.vcode.proofs.Alike.{MayLeave}
use Rattle.vcode.proofs.Following.{Follows, AllFollow, ActFollows, act_follows, lines_follow, WayFollows, way_follows}
use Rattle.vcode.proofs.Rewriting.{rewrites_keep}
use Rattle.sign_extensions.specs.Whole.{is_marked, is_whole, gives_whole, loads_whole, is_word, takes_whole, keeps_marks, are_closed, is_extension, claim, with_claim, jump_claim, with_copy, with_copies}
use Rattle.sign_extensions.proofs.Values.{Whole, IfWhole, AreWhole, whole_number, assign_whole, operand_whole, then_whole, operate_whole, load_whole, held_whole, extension_is}
use Rattle.il_ast.proofs.Listed.{all_at}

-- marked registers hold whole words, and registers of the second code at least as much
abbrev claims : List Bool → Claims
claims marks =
    record {
      Claim = Unit {0};
      holds = λ q globals memory before after. AreWhole marks before × AllFollow after before;
      arrives = λ q k n. n ≡ k;
    }

-- ---- what lines leave whole

unless : (a b : Bool) → (not a || b) ≡ true → a ≡ true → b ≡ true
unless true b h e = h
unless false b h e = absurd (let no : ⊥ = cc in no)

class_whole : (c : Class) (v : Value) → is_word c ≡ true → IfWhole (Some (held c v))
class_whole W v h = held_whole v
class_whole L v h = absurd (let no : ⊥ = cc in no)

taken_whole : (marks : List Bool) (d : Destination ℕ) (v : Value) → takes_whole marks d ≡ true → is_marked marks d.place ≡ true → IfWhole (Some (held d.class v))
taken_whole marks d v h marked = class_whole d.class v (unless (is_marked marks d.place) (is_word d.class) h marked)

given_is : (memory next : Memory) (v o : Option Value) → MayLeave memory (given v) o next → o ≡ v
given_is memory next None o may = absurd may
given_is memory next (Some v) o may = may.0

-- what is given to a register where the value that a line gives is whole
assigned_whole : (marks : List Bool) (values : Values ℕ) (to : ℕ) (v o : Option Value) → AreWhole marks values → o ≡ v → (is_marked marks to ≡ true → IfWhole v) → AreWhole marks (written (Some to) o values)
assigned_whole marks values to v o all is h = assign_whole marks values to o all (λ marked. subst IfWhole (sym is) (h marked))

called_whole : (marks : List Bool) (memory next : Memory) (values : Values ℕ) (d : Destination ℕ) (args : List (Argument ℕ)) (x : Option Value) (vs : Option (List Value)) (o : Option Value) → takes_whole marks d ≡ true → AreWhole marks values
    → MayLeave memory (asked (Some d) args x vs) o next → AreWhole marks (written (Some d.place) o values)
called_whole marks memory next values d args (Some (Function g)) (Some vs) o h all may = assigned_whole marks values d.place (Some (held d.class may.0)) o all may.1 (taken_whole marks d may.0 h)
called_whole marks memory next values d args (Some (Function g)) None o h all may = absurd may
called_whole marks memory next values d args (Some (Integer k)) vs o h all may = absurd may
called_whole marks memory next values d args (Some (Pointer b k)) vs o h all may = absurd may
called_whole marks memory next values d args None vs o h all may = absurd may

pub line_whole : (marks : List Bool) (globals : List Value) (memory next : Memory) (values : Values ℕ) (l : Line ℕ) (o : Option Value) → keeps_marks marks l ≡ true → AreWhole marks values → MayLeave memory (act globals memory values l) o next
    → AreWhole marks (written (line_writes l) o values)
line_whole marks globals memory next values (Tick turn w) o h all may = all
line_whole marks globals memory next values (Set to a) o h all may =
    assigned_whole marks values to (value_of globals values a) o all may.0 (λ marked. operand_whole marks globals values a all (unless (is_marked marks to) (is_whole marks a) h marked))
line_whole marks globals memory next values (Operate to op a b) o h all may =
    assigned_whole marks values to (operated memory op (value_of globals values a) (value_of globals values b)) o all may.0
    (λ marked. then_whole (value_of globals values a) (λ u. option_and_then (λ v. operate memory op u v) (value_of globals values b))
    (λ u x. then_whole (value_of globals values b) (λ v. operate memory op u v)
    (λ v y. operate_whole marks globals values memory op a b u v all (unless (is_marked marks to) (gives_whole marks op a b) h marked) x y)))
line_whole marks globals memory next values (Load to op at) o h all may =
    let v : Option Value = option_and_then (loaded memory op) (address_of globals memory values at) in
    assigned_whole marks values to v o all (given_is memory next v o may)
    (λ marked. then_whole (address_of globals memory values at) (loaded memory op) (λ u x. load_whole memory op u (unless (is_marked marks to) (loads_whole op) h marked)))
line_whole marks globals memory next values (Store size a at) o h all may = all
line_whole marks globals memory next values (Alloc None size) o h all may = all
line_whole marks globals memory next values (Alloc (Some to) size) o h all may = assigned_whole marks values to (Some (Pointer (length memory) 0)) o all may.0 (λ marked. refl)
line_whole marks globals memory next values (Blit from to count) o h all may = all
line_whole marks globals memory next values (Call None callee args) o h all may = all
line_whole marks globals memory next values (Call (Some d) callee args) o h all may = called_whole marks memory next values d args (value_of globals values callee) (read_all globals values args) o h all may

-- ---- an extension beside its copy

-- an extension, by what it extends
record Extends (marks : List Bool) (op : Operation) (a b : Operand ℕ) : Type 0 where
  register : ℕ
  number : ℕ
  operation : op ≡ RegW Addw
  left : a ≡ At register
  right : b ≡ Number number
  zero_is : number ≡ 0
  marked : is_marked marks register ≡ true

extends : (marks : List Bool) (op : Operation) (a b : Operand ℕ) → is_extension marks op a b ≡ true → Extends marks op a b
extends marks (RegW Addw) (At r) (Number n) h =
    let s = and_parts (nat_eq n 0) (is_marked marks r) h in
    record { register = r; number = n; operation = refl; left = refl; right = refl; zero_is = (let e = s.0 in grind (arith, nat_tests)); marked = s.1 }
extends marks (RegW Addw) (At r) (At q) h = absurd (let no : ⊥ = cc in no)
extends marks (RegW Addw) (At r) (Name g) h = absurd (let no : ⊥ = cc in no)
extends marks (RegW Addw) (Number n) b h = absurd (let no : ⊥ = cc in no)
extends marks (RegW Addw) (Name g) b h = absurd (let no : ⊥ = cc in no)
extends marks (RegW Subw) a b h = absurd (let no : ⊥ = cc in no)
extends marks (RegW Sllw) a b h = absurd (let no : ⊥ = cc in no)
extends marks (RegW Srlw) a b h = absurd (let no : ⊥ = cc in no)
extends marks (RegW Sraw) a b h = absurd (let no : ⊥ = cc in no)
extends marks (RegW Mulw) a b h = absurd (let no : ⊥ = cc in no)
extends marks (RegW Divw) a b h = absurd (let no : ⊥ = cc in no)
extends marks (RegW Divuw) a b h = absurd (let no : ⊥ = cc in no)
extends marks (RegW Remw) a b h = absurd (let no : ⊥ = cc in no)
extends marks (RegW Remuw) a b h = absurd (let no : ⊥ = cc in no)
extends marks (Reg op) a b h = absurd (let no : ⊥ = cc in no)
extends marks (Compare on k) a b h = absurd (let no : ⊥ = cc in no)

-- of a register that holds a whole word: that is written
extension_follows : (memory : Memory) (n : ℕ) (o p : Option Value) → n ≡ 0 → IfWhole o → Follows p o → Follows p (option_and_then (λ u. operate memory (RegW Addw) u (Integer (n % 2 ^ 64))) o)
unfolding operate
extension_follows memory n None p nought h follows v e = absurd (let no : ⊥ = cc in no)
extension_follows memory n (Some (Integer k)) p nought h follows v e =
    follows (Integer k) refl ∙ ap (λ x. Some (Integer x)) (sym (extension_is k n nought h)) ∙ e
extension_follows memory n (Some (Pointer b k)) p nought h follows v e = absurd (let no : ⊥ = cc in no)
extension_follows memory n (Some (Function g)) p nought h follows v e = absurd (let no : ⊥ = cc in no)

extension_given : (marks : List Bool) (globals : List Value) (memory : Memory) (ev el : Values ℕ) (op : Operation) (a b : Operand ℕ) → Extends marks op a b → AreWhole marks ev → AllFollow el ev
    → Follows (value_of globals el a) (operated memory op (value_of globals ev a) (value_of globals ev b))
extension_given marks globals memory ev el op a b x all more =
    subst (λ (y : Operation). Follows (value_of globals el a) (operated memory y (value_of globals ev a) (value_of globals ev b))) (sym x.operation)
    (subst (λ (y : Operand ℕ). Follows (value_of globals el y) (operated memory (RegW Addw) (value_of globals ev y) (value_of globals ev b))) (sym x.left)
    (subst (λ (y : Operand ℕ). Follows (el x.register) (operated memory (RegW Addw) (ev x.register) (value_of globals ev y))) (sym x.right)
    (extension_follows memory x.number (ev x.register) (el x.register) x.zero_is (all x.register x.marked) (more x.register))))

operate_follows : (marks : List Bool) (globals : List Value) (memory : Memory) (ev el : Values ℕ) (to : ℕ) (op : Operation) (a b : Operand ℕ) (t : Bool) → is_extension marks op a b ≡ t → AreWhole marks ev → AllFollow el ev
    → ActFollows (act globals memory el (if t then Set to a else Operate to op a b)) (act globals memory ev (Operate to op a b))
operate_follows marks globals memory ev el to op a b false e all more = act_follows globals memory ev el (Operate to op a b) more
operate_follows marks globals memory ev el to op a b true e all more =
    (value_of globals el a, (refl, extension_given marks globals memory ev el op a b (extends marks op a b e) all more))

-- ---- a call beside the one with claims

-- what stands whole may be claimed to
value_passed : (e : Extension) (k : Class) (v : Value) → Whole v → passed Claimed k v ≡ passed e k v
value_passed Made W (Integer n) h =
    ap (λ (b : Bool). if b then in_place W (Integer n) else None) (eq-eqb (sign_extended (n % 2 ^ 32)) n (whole_number n h))
value_passed Made W (Pointer b k) h = refl
value_passed Made W (Function g) h = refl
value_passed Made L v h = refl
value_passed Claimed k v h = refl

whole_passed : (e : Extension) (k : Class) (o : Option Value) → IfWhole o → option_and_then (passed Claimed k) o ≡ option_and_then (passed e k) o
whole_passed e k None h = refl
whole_passed e k (Some v) h = value_passed e k v h

claim_same : (marks : List Bool) (globals : List Value) (values : Values ℕ) (k : Class) (a : Operand ℕ) (e : Extension) → AreWhole marks values
    → option_and_then (passed (claim marks a e) k) (value_of globals values a) ≡ option_and_then (passed e k) (value_of globals values a)
claim_same marks globals values k a e all = by (is_whole marks a) refl
  where
    by : (t : Bool) → is_whole marks a ≡ t → option_and_then (passed (if t then Claimed else e) k) (value_of globals values a) ≡ option_and_then (passed e k) (value_of globals values a)
    by false h = refl
    by true h = whole_passed e k (value_of globals values a) (operand_whole marks globals values a all h)

claims_same : (marks : List Bool) (globals : List Value) (values : Values ℕ) (args : List (Argument ℕ)) → AreWhole marks values → read_all globals values (map (with_claim marks) args) ≡ read_all globals values args
claims_same marks globals values [] all = refl
claims_same marks globals values (a ∷ args) all =
    ap (option_and_then (λ v. option_map (λ vs. v ∷ vs) (read_all globals values (map (with_claim marks) args)))) (claim_same marks globals values a.class a.value a.extension all)
    ∙ ap (λ (x : Option (List Value)). option_and_then (λ v. option_map (λ vs. v ∷ vs) x) (read_argument globals values a)) (claims_same marks globals values args all)

classes_same : (marks : List Bool) (args : List (Argument ℕ)) → map (λ (a : Argument ℕ). a.class) (map (with_claim marks) args) ≡ map (λ (a : Argument ℕ). a.class) args
classes_same marks [] = refl
classes_same marks (a ∷ args) = ap (λ (cs : List Class). a.class ∷ cs) (classes_same marks args)

asked_same : (marks : List Bool) (to : Option (Destination ℕ)) (args : List (Argument ℕ)) (x : Option Value) (vs : Option (List Value)) → asked to (map (with_claim marks) args) x vs ≡ asked to args x vs
asked_same marks to args (Some (Function g)) (Some vs) =
    ap (λ (cs : List Class). Asks (record { callee = g; classes = cs; wants = option_map (λ (d : Destination ℕ). d.class) to; args = vs })) (classes_same marks args)
asked_same marks to args (Some (Function g)) None = refl
asked_same marks to args (Some (Integer k)) vs = refl
asked_same marks to args (Some (Pointer b k)) vs = refl
asked_same marks to args None vs = refl

call_same : (marks : List Bool) (globals : List Value) (memory : Memory) (values : Values ℕ) (to : Option (Destination ℕ)) (callee : Operand ℕ) (args : List (Argument ℕ)) → AreWhole marks values
    → act globals memory values (Call to callee (map (with_claim marks) args)) ≡ act globals memory values (Call to callee args)
call_same marks globals memory values to callee args all =
    ap (asked to (map (with_claim marks) args) (value_of globals values callee)) (claims_same marks globals values args all)
    ∙ asked_same marks to args (value_of globals values callee) (read_all globals values args)

jump_same : (marks : List Bool) (globals : List Value) (result : Option Class) (memory : Memory) (values : Values ℕ) (j : Jump ℕ) → AreWhole marks values
    → way globals result memory values (jump_claim marks j) ≡ way globals result memory values j
jump_same marks globals result memory values (Goto k) all = refl
jump_same marks globals result memory values (Branch on met otherwise) all = refl
jump_same marks globals result memory values (Return None) all = refl
jump_same marks globals None memory values (Return (Some a)) all = refl
jump_same marks globals (Some k) memory values (Return (Some a)) all = ap answering (claim_same marks globals values k a.value a.extension all)
jump_same marks globals result memory values Halt all = refl

-- ---- each line beside its copy

copy_follows : (marks : List Bool) (globals : List Value) (memory : Memory) (ev el : Values ℕ) (l : Line ℕ) → AreWhole marks ev → AllFollow el ev → ActFollows (act globals memory el (with_copy marks l)) (act globals memory ev l)
copy_follows marks globals memory ev el (Tick turn w) all more = act_follows globals memory ev el (Tick turn w) more
copy_follows marks globals memory ev el (Set to a) all more = act_follows globals memory ev el (Set to a) more
copy_follows marks globals memory ev el (Operate to op a b) all more = operate_follows marks globals memory ev el to op a b (is_extension marks op a b) refl all more
copy_follows marks globals memory ev el (Load to op at) all more = act_follows globals memory ev el (Load to op at) more
copy_follows marks globals memory ev el (Store size a at) all more = act_follows globals memory ev el (Store size a at) more
copy_follows marks globals memory ev el (Alloc to size) all more = act_follows globals memory ev el (Alloc to size) more
copy_follows marks globals memory ev el (Blit from to count) all more = act_follows globals memory ev el (Blit from to count) more
copy_follows marks globals memory ev el (Call to callee args) all more =
    let claimed : Line ℕ = Call to callee (map (with_claim marks) args) in
    subst (λ (x : Act). ActFollows (act globals memory el claimed) x) (call_same marks globals memory ev to callee args all) (act_follows globals memory ev el claimed more)

copy_writes : (marks : List Bool) (l : Line ℕ) → line_writes (with_copy marks l) ≡ line_writes l
copy_writes marks (Tick turn w) = refl
copy_writes marks (Set to a) = refl
copy_writes marks (Operate to op a b) = by (is_extension marks op a b)
  where
    by : (t : Bool) → line_writes (if t then Set to a else Operate to op a b) ≡ Some to
    by true = refl
    by false = refl
copy_writes marks (Load to op at) = refl
copy_writes marks (Store size a at) = refl
copy_writes marks (Alloc to size) = refl
copy_writes marks (Blit from to count) = refl
copy_writes marks (Call to callee args) = refl

line_beside : (marks : List Bool) (l : Line ℕ) → keeps_marks marks l ≡ true → Alike (claims marks) tt tt l (with_copy marks l)
line_beside marks l h globals memory before after (all, more) =
    lines_follow (λ next ev el. AreWhole marks ev × AllFollow el ev) globals memory before after l (with_copy marks l) (copy_writes marks l) more (copy_follows marks globals memory before after l all more)
    (λ o next new may follow. (line_whole marks globals memory next before l o h all may, follow))

ways_beside : (marks : List Bool) (globals : List Value) (memory : Memory) (before after : Values ℕ) → AreWhole marks before → AllFollow after before → (x y : Way) → WayFollows y x → Arrives (claims marks) globals memory before after x y
ways_beside marks globals memory before after all more Lost y h = tt
ways_beside marks globals memory before after all more (Enters k) y h = (k, (h, (tt, (refl, (all, more)))))
ways_beside marks globals memory before after all more (Answers o) y h = h
ways_beside marks globals memory before after all more Halts y h = h

jump_beside : (marks : List Bool) (result : Option Class) (j : Jump ℕ) → LeadAlike (claims marks) result tt j (jump_claim marks j)
jump_beside marks result j globals memory before after (all, more) =
    ways_beside marks globals memory before after all more (way globals result memory before j) (way globals result memory after (jump_claim marks j))
    (subst (λ (x : Way). WayFollows (way globals result memory after (jump_claim marks j)) x) (jump_same marks globals result memory before j all)
    (way_follows globals result memory before after (jump_claim marks j) more))

-- ---- the code follows

module _ (marks : List Bool) (v w : Code ℕ) where
  block_follows : (lines : List (Line ℕ)) (j : Jump ℕ) → list_all (keeps_marks marks) lines ≡ true → CodeFollows (claims marks) v w tt lines j (map (with_copy marks) lines) (jump_claim marks j)
  block_follows [] j h = Jumps (jump_beside marks v.result j)
  block_follows (l ∷ lines) j h =
      let s = and_parts (keeps_marks marks l) (list_all (keeps_marks marks) lines) h in Both (line_beside marks l s.0) (block_follows lines j s.1)

pub bound_whole : (marks : List Bool) (values : Values ℕ) (params : List (Destination ℕ)) (args : List Value) → list_all (takes_whole marks) params ≡ true → AreWhole marks values → AreWhole marks (bound virtual values params args)
bound_whole marks values [] args h all = all
bound_whole marks values (d ∷ params) [] h all = all
bound_whole marks values (d ∷ params) (v ∷ args) h all =
    let s = and_parts (takes_whole marks d) (list_all (takes_whole marks) params) h in
    bound_whole marks (put virtual d.place (held d.class v) values) params args s.1 (assign_whole marks values d.place (Some (held d.class v)) all (taken_whole marks d v s.0))

abbrev pub copied : List Bool → Code ℕ → Code ℕ
copied marks v = record { result = v.result; params = v.params; blocks = map (with_copies marks) v.blocks }

rewrites : (marks : List Bool) (v : Code ℕ) → are_closed marks v ≡ true → Rewrites (claims marks) v (copied marks v)
rewrites marks v closed =
    let own = and_parts (list_all (takes_whole marks) v.params) (list_all (λ (d : Block ℕ). list_all (keeps_marks marks) d.lines) v.blocks) closed in
    record {
      result = refl;
      first = tt;
      arrives = refl;
      begins = λ globals i args. (bound_whole marks unknown v.params i.args own.0 (λ r marked. tt), λ r x e. e);
      follows = λ q k n same b at. (
        with_copies marks b,
        (
          ap (slice_get (map (with_copies marks) v.blocks)) same ∙ slice_get-map (with_copies marks) v.blocks k ∙ ap (option_map (with_copies marks)) at,
          block_follows marks v (copied marks v) b.lines b.jump (all_at (λ (d : Block ℕ). list_all (keeps_marks marks) d.lines) v.blocks k b own.1 at),
        ),
      );
    }

pub runs : (marks : List Bool) (v : Code ℕ) → are_closed marks v ≡ true → (globals : List Value)
    → KeepsCode (classes_in v.params) (begin virtual v) (step virtual globals v) (begin virtual (copied marks v)) (step virtual globals (copied marks v))
runs marks v closed globals = rewrites_keep (claims marks) v (copied marks v) (rewrites marks v closed) globals
