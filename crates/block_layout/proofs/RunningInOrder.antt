-- The code in an order follows the code, in the same states, each block where it stands in the order.
use Rattle.std.proofs.Common.{◌≡◌, ℕ, suc, Bool, true, ◌||◌, if◌then◌else◌, List, [], ◌∷◌, length, Option, Some, slice_get, refl, sym, ◌∙◌, ap, subst, arith, unwrap_or, option_map}
use Rattle.std.specs.List.{list_all}
use Rattle.std.proofs.lemmas.Option.{slice_get-map, slice_get_within}
use Rattle.std.proofs.lemmas.Bool.{and_parts, eqb-true}
use Rattle.il_ast.specs.declared.value.Value.{Value}
use Rattle.il_ast.specs.Prelude.{KeepsCode}
use Rattle.vcode.specs.declared.place.Operand.{Operand}
use Rattle.vcode.specs.declared.line.Line.{Line}
use Rattle.vcode.specs.declared.line.Jump.{Jump}
use Rattle.vcode.specs.declared.line.Jump.TheVariants.{Goto, Branch, Return, Halt}
use Rattle.vcode.specs.declared.code.Block.{Block}
use Rattle.vcode.specs.declared.code.Code.{Code}
use Rattle.vcode.specs.Prelude.{Values, virtual, classes_in, begin, value_of, step, line_writes, act, written, way, Claims, Alike, Arrives, LeadAlike, Follows, Jumps, Both, Rewrites}
use Rattle.vcode.proofs.SameReads.{SameValue}
use Rattle.vcode.proofs.SameActs.{jump_reads_every, jump_itself}
use Rattle.vcode.proofs.Alike.{lines_alike}
use Rattle.vcode.proofs.Leading.{LeadsTo, Arriving, led_to, jump_alike}
use Rattle.vcode.proofs.Rewriting.{rewrites_keep}
use Rattle.block_layout.specs.Ordered.{Order, place_in, is_named, block_at, led, placed, in_order, begins, leads_within}
use Rattle.block_layout.proofs.Placing.{at_place, all_named}

-- registers hold the same; a block is entered where it stands in the order, which names it if it is there
abbrev claims : Order → Code ℕ → Claims
claims order f =
    record {
      Claim = Unit {0};
      holds = λ q globals memory before after. after ≡ before;
      arrives = λ q k n. (n ≡ place_in order k) × ((b : Block ℕ) → slice_get f.blocks k ≡ Some b → is_named order k ≡ true);
    }

-- ---- lines and jumps

line_follows : (order : Order) (f : Code ℕ) (l : Line ℕ) → Alike (claims order f) tt tt l l
line_follows order f l globals memory before after same =
    lines_alike (λ next ev el. el ≡ ev) globals memory before after l l (λ works. ap (λ (x : Values ℕ). act globals memory x l) same) (λ o next may. ap (written (line_writes l) o) same)

led_is : (order : Order) (j : Jump ℕ) → led_to (place_in order) j ≡ led order j
led_is order (Goto k) = refl
led_is order (Branch on met otherwise) = refl
led_is order (Return a) = refl
led_is order Halt = refl

each_named : (order : Order) (holds : ℕ → Type 0) → ((k : ℕ) → is_named order k ≡ true → holds k) → (j : Jump ℕ) → leads_within order j ≡ true → LeadsTo holds j
each_named order holds named (Goto k) h = named k h
each_named order holds named (Branch on met otherwise) h =
    let s = and_parts (is_named order met) (is_named order otherwise) h in (named met s.0, named otherwise s.1)
each_named order holds named (Return a) h = tt
each_named order holds named Halt h = tt

jump_follows : (order : Order) (f : Code ℕ) (j : Jump ℕ) → leads_within order j ≡ true → LeadAlike (claims order f) f.result tt j (led order j)
jump_follows order f j leads globals memory before after same =
    subst (λ (x : Jump ℕ). Arrives (claims order f) globals memory before after (way globals f.result memory before j) (way globals f.result memory after x))
    (ap (led_to (place_in order)) (jump_itself j) ∙ led_is order j)
    (jump_alike (claims order f) globals memory before after f.result (place_in order) (λ a. a) j
    (jump_reads_every (SameValue globals before after (λ a. a)) (λ (a : Operand ℕ). ap (λ (x : Values ℕ). value_of globals x a) same) j)
    (each_named order (Arriving (claims order f) globals memory before after (place_in order)) (λ k named. (tt, ((refl, λ b at. named), same))) j leads))

-- ---- the code follows

lines_follow : (order : Order) (f : Code ℕ) (lines : List (Line ℕ)) (j : Jump ℕ) → leads_within order j ≡ true → Follows (claims order f) f (in_order order f) tt lines j lines (led order j)
lines_follow order f [] j leads = Jumps (jump_follows order f j leads)
lines_follow order f (l ∷ lines) j leads = Both (line_follows order f l) (lines_follow order f lines j leads)

abbrev IsClosed : Order → Code ℕ → Type 0
IsClosed order f = list_all (λ k. leads_within order (block_at f.blocks k).jump) order ≡ true

found : (f : Code ℕ) (k : ℕ) (b : Block ℕ) → slice_get f.blocks k ≡ Some b → block_at f.blocks k ≡ b
found f k b at = ap (λ (o : Option (Block ℕ)). unwrap_or o (record { lines = []; jump = Halt })) at

stands : (order : Order) (f : Code ℕ) (k : ℕ) (b : Block ℕ) → slice_get f.blocks k ≡ Some b → is_named order k ≡ true → slice_get (in_order order f).blocks (place_in order k) ≡ Some (placed order b)
stands order f k b at named =
    slice_get-map (λ j. placed order (block_at f.blocks j)) order (place_in order k)
    ∙ ap (option_map (λ j. placed order (block_at f.blocks j))) (at_place order k named)
    ∙ ap (λ (c : Block ℕ). Some (placed order c)) (found f k b at)

start_stands : (blocks : List (Block ℕ)) (order : Order) → begins (length blocks) order ≡ true → place_in order 0 ≡ 0
start_stands blocks [] h = refl
start_stands blocks (k ∷ order) h = ap (λ (b : Bool). if b then 0 else suc (place_in order 0)) h

start_named : (blocks : List (Block ℕ)) (order : Order) → begins (length blocks) order ≡ true → (b : Block ℕ) → slice_get blocks 0 ≡ Some b → is_named order 0 ≡ true
start_named blocks [] h b at =
    let none = eqb-true (length blocks) 0 h in
    let some = slice_get_within blocks 0 b at in
    absurd (omega arith)
start_named blocks (k ∷ order) h b at = ap (λ x. x || is_named order 0) h

rewrites : (order : Order) (f : Code ℕ) → begins (length f.blocks) order ≡ true → IsClosed order f → Rewrites (claims order f) f (in_order order f)
rewrites order f first closed =
    record {
      result = refl;
      first = tt;
      arrives = (sym (start_stands f.blocks order first), start_named f.blocks order first);
      begins = λ globals i args. refl;
      follows = λ q k n arrives b at.
          let named : is_named order k ≡ true = arrives.1 b at in
          let leads : leads_within order b.jump ≡ true =
          ap (λ (c : Block ℕ). leads_within order c.jump) (sym (found f k b at)) ∙ all_named (λ m. leads_within order (block_at f.blocks m).jump) order k closed named in
          (placed order b, (ap (slice_get (in_order order f).blocks) arrives.0 ∙ stands order f k b at named, lines_follow order f b.lines b.jump leads));
    }

pub runs : (order : Order) (f : Code ℕ) → begins (length f.blocks) order ≡ true → IsClosed order f → (globals : List Value)
    → KeepsCode (classes_in f.params) (begin virtual f) (step virtual globals f) (begin virtual (in_order order f)) (step virtual globals (in_order order f))
runs order f first closed globals = rewrites_keep (claims order f) f (in_order order f) (rewrites order f first closed) globals
