-- Each rule goes from the names before it to those behind it by the numbers that it mentions, in the order of the text.
use Rattle.std.proofs.Common.{◌≡◌, ℕ, ◌+◌, cond, List, [], ◌∷◌, ◌++◌, Option, Some, None, refl, sym, ap, ◌∙◌, ⊎_elim, subst, append_assoc, nat_eq, nat_lt, flat_map, append-nil}
use Rattle.il_lex.specs.declared.kind.Symbol.{Symbol as Mark}
use Rattle.il_lex.specs.declared.kind.Kind.{Kind}
use Rattle.il_lex.specs.declared.kind.Kind.TheVariants.{Symbol, Newline, Word, Natural, Negative, Quoted}
use Rattle.il_lex.specs.Next.{line_ends}
use Rattle.il_ast.specs.Prelude.{come_after}
use Rattle.il_ast.specs.declared.operand.Val.{Val}
use Rattle.il_ast.specs.declared.operand.Val.TheVariants.{Int, Temp, Global}
use Rattle.il_ast.specs.declared.operand.Dest.{Dest}
use Rattle.il_ast.specs.declared.operand.Arg.{Arg}
use Rattle.il_ast.specs.declared.instruction.Inst.{Inst}
use Rattle.il_ast.specs.declared.instruction.Inst.TheVariants.{Unary, Binary, Alloc, Store, Blit, Call}
use Rattle.il_ast.specs.declared.instruction.Jump.{Jump}
use Rattle.il_ast.specs.declared.instruction.Jump.TheVariants.{Goto, Branch, Return, Halt}
use Rattle.il_ast.specs.declared.instruction.Lined.{Lined}
use Rattle.il_ast.specs.declared.block.Phi.{Phi}
use Rattle.il_ast.specs.declared.block.PhiArg.{PhiArg}
use Rattle.il_ast.specs.declared.block.Block.{Block}
use Rattle.il_ast.specs.declared.function.Param.{Param}
use Rattle.il_ast.specs.declared.datum.Item.{Item}
use Rattle.il_ast.specs.declared.datum.Item.TheVariants.{Int as NumberItem, Bytes, Address}
use Rattle.il_ast.specs.declared.datum.Field.{Field as DataField}
use Rattle.il_ast.specs.declared.datum.Field.TheVariants.{Items, Zeros}
use Rattle.il_reader.specs.Prelude.{State}
use Rattle.il_reader.specs.Rules as rule
use Rattle.il_reader.specs.Grammar as grammar
use Rattle.il_reader.specs.Reads as reads
use Rattle.il_reader.proofs.InOrder.{Goes, stays, follows}

-- one of the lists of names, and what a temporary, a label and a global name mention of it
pub record Naming : Type 0 where
  pub names : State → List (List ℕ)
  pub temp : ℕ → List ℕ
  pub label : ℕ → List ℕ
  pub symbol : ℕ → List ℕ
  pub temp_goes : (s : State) (n : ℕ) (s' : State) → rule.temp s n s' → Goes names s (temp n) s'
  pub label_goes : (s : State) (n : ℕ) (s' : State) → rule.label s n s' → Goes names s (label n) s'
  pub symbol_goes : (s : State) (n : ℕ) (s' : State) → rule.symbol s n s' → Goes names s (symbol n) s'
  pub token_keeps : (s : State) (rest : List ℕ) (line : ℕ) → names (record s { rest = rest; line = line }) ≡ names s
  pub once : (k n : ℕ) (ks : List ℕ) → come_after n (label k ++ (label k ++ ks)) ≡ come_after n (label k ++ ks)

-- a rule, with what each thing that it reads mentions
pub record Mentions {A : Type 0} (N : Naming) (r : rule.Rule A) (m : A → List ℕ) : Type 0 where
  pub goes : (s : State) (x : A) (s' : State) → r s x s' → Goes N.names s (m x) s'

-- ---- how rules are put together

pub seq : {names : State → List (List ℕ)} {s m s' : State} {ks ls : List ℕ} → Goes names s ks m → Goes names m ls s' → Goes names s (ks ++ ls) s'
seq {names} {s} {m} {s'} {ks} {ls} p q = follows names s m s' ks ls p q

-- nothing is mentioned behind it
pub ends : {names : State → List (List ℕ)} {s m s' : State} {ks : List ℕ} → Goes names s ks m → Goes names m [] s' → Goes names s ks s'
ends {names} {s} {m} {s'} {ks} p q = subst (λ ls. Goes names s ls s') (append-nil ks) (follows names s m s' ks [] p q)

-- what was given at the end
pub given : {A : Type 0} {names : State → List (List ℕ)} {s m s' : State} {x y : A} (f : A → List ℕ) → (x ≡ y) × (s' ≡ m) → Goes names s (f y) m → Goes names s (f x) s'
given {A} {names} {s} {m} {s'} {x} {y} f e p = subst (λ z. Goes names s (f z) s') (sym e.0) (subst (Goes names s (f y)) (sym e.1) p)

abbrev pub Quiet : {A : Type 0} → Naming → rule.Rule A → Type 0
Quiet N r = Mentions N r (λ _. [])

pub give_quiet : {A : Type 0} (N : Naming) (x : A) → Quiet N (rule.give x)
give_quiet N x = record { goes = λ s y s' h. stays N.names s s' (ap N.names h.1) }

pub line_quiet : (N : Naming) → Quiet N rule.line
line_quiet N = record { goes = λ s y s' h. stays N.names s s' (ap N.names h.1) }

pub then_mentions : {A B : Type 0} (N : Naming) (p : rule.Rule A) (q : A → rule.Rule B) (m : B → List ℕ) → Quiet N p → ((x : A) → Mentions N (q x) m) → Mentions N (rule.◌>>=◌ p q) m
then_mentions N p q m hp hq = record { goes = λ s y s' h. seq (hp.goes s h.0 h.1 h.2) ((hq h.0).goes h.1 y s' h.3) }

pub either_mentions : {A : Type 0} (N : Naming) (p q : rule.Rule A) (m : A → List ℕ) → Mentions N p m → Mentions N q m → Mentions N (rule.◌∥◌ p q) m
either_mentions N p q m hp hq = record { goes = λ s x s' h. ⊎_elim (λ w. hp.goes s x s' w) (λ w. hq.goes s x s' w) h }

abbrev pub in_maybe : {A : Type 0} → (A → List ℕ) → Option A → List ℕ
in_maybe m None = []
in_maybe m (Some x) = m x

pub maybe_mentions : {A : Type 0} (N : Naming) (p : rule.Rule A) (m : A → List ℕ) → Mentions N p m → Mentions N (rule.maybe p) (in_maybe m)
maybe_mentions {A} N p m hp = record { goes = at }
  where
    at : (s : State) (o : Option A) (s' : State) → rule.maybe p s o s' → Goes N.names s (in_maybe m o) s'
    at s None s' h = stays N.names s s' (ap N.names h)
    at s (Some x) s' h = hp.goes s x s' h

pub maybe_quiet : {A : Type 0} (N : Naming) (p : rule.Rule A) → Quiet N p → Quiet N (rule.maybe p)
maybe_quiet {A} N p hp = record { goes = at }
  where
    at : (s : State) (o : Option A) (s' : State) → rule.maybe p s o s' → Goes N.names s [] s'
    at s None s' h = stays N.names s s' (ap N.names h)
    at s (Some x) s' h = hp.goes s x s' h

pub many_mentions : {A : Type 0} (N : Naming) (p : rule.Rule A) (m : A → List ℕ) → Mentions N p m → Mentions N (rule.many p) (flat_map m)
many_mentions {A} N p m hp = record { goes = at }
  where
    at : (s : State) (xs : List A) (s' : State) → rule.many p s xs s' → Goes N.names s (flat_map m xs) s'
    at s [] s' h = stays N.names s s' (ap N.names h)
    at s (x ∷ xs) s' h = seq (hp.goes s x h.0 h.1) (at h.0 xs s' h.2)

pub many_quiet : {A : Type 0} (N : Naming) (p : rule.Rule A) → Quiet N p → Quiet N (rule.many p)
many_quiet {A} N p hp = record { goes = at }
  where
    at : (s : State) (xs : List A) (s' : State) → rule.many p s xs s' → Goes N.names s [] s'
    at s [] s' h = stays N.names s s' (ap N.names h)
    at s (x ∷ xs) s' h = seq (hp.goes s x h.0 h.1) (at h.0 xs s' h.2)

pub some_mentions : {A : Type 0} (N : Naming) (p : rule.Rule A) (m : A → List ℕ) → Mentions N p m → Mentions N (rule.some p) (flat_map m)
some_mentions N p m hp = record { goes = λ s ys s' h. given (flat_map m) h.3.3 (seq (hp.goes s h.0 h.1 h.2) ((many_mentions N p m hp).goes h.1 h.3.0 h.3.1 h.3.2)) }

pub some_quiet : {A : Type 0} (N : Naming) (p : rule.Rule A) → Quiet N p → Quiet N (rule.some p)
some_quiet N p hp = record { goes = λ s ys s' h. given (λ _. []) h.3.3 (seq (hp.goes s h.0 h.1 h.2) ((many_quiet N p hp).goes h.1 h.3.0 h.3.1 h.3.2)) }

pub ended_mentions : {A B : Type 0} (N : Naming) (q : rule.Rule B) (p : rule.Rule A) (m : A → List ℕ) → Quiet N q → Mentions N p m → Mentions N (rule.ended_by q p) m
ended_mentions N q p m hq hp = record { goes = λ s y s' h. given m h.3.3 (ends (hp.goes s h.0 h.1 h.2) (hq.goes h.1 h.3.0 h.3.1 h.3.2)) }

pub commas_mention : {A : Type 0} (N : Naming) (c : rule.Rule (Unit {0})) (p : rule.Rule A) (m : A → List ℕ) → Quiet N c → Mentions N p m → Mentions N (rule.commas c p) (flat_map m)
commas_mention N c p m hc hp = record {
  goes = λ s ys s' h.
      let more = h.3 in
      let last = more.3 in
      given (flat_map m) last.3 (seq (hp.goes s h.0 h.1 h.2)
      (ends ((many_mentions N (rule.◌>>◌ c p) m (then_mentions N c (λ _. p) m hc (λ _. hp))).goes h.1 more.0 more.1 more.2)
      ((maybe_quiet N c hc).goes more.1 last.0 last.1 last.2)));
}

pub listed_mention : {A : Type 0} (N : Naming) (c : rule.Rule (Unit {0})) (p : rule.Rule A) (m : A → List ℕ) → Quiet N c → Mentions N p m → Mentions N (rule.listed c p) (flat_map m)
listed_mention N c p m hc hp = either_mentions N (rule.commas c p) (rule.give []) (flat_map m) (commas_mention N c p m hc hp)
    (record { goes = λ s ys s' h. given (flat_map m) h (stays N.names s s refl) })

-- ---- tokens

token_quiet : (N : Naming) (kind : Kind) → Quiet N (rule.token kind)
token_quiet N kind = record { goes = λ s text s' h. stays N.names s s' (ap N.names h.3 ∙ N.token_keeps s h.1 (s.line + line_ends kind)) }

pub word_quiet : (N : Naming) (text : List ℕ) → Quiet N (rule.word text)
word_quiet N text = record { goes = λ s x s' h. (token_quiet N Word).goes s text s' h }

pub piece_quiet : (N : Naming) (mark : Mark) → Quiet N (rule.piece mark)
piece_quiet N mark = then_mentions N (rule.token (Symbol mark)) _ (λ _. []) (token_quiet N (Symbol mark)) (λ _. give_quiet N tt)

pub newline_quiet : (N : Naming) → Quiet N rule.newline
newline_quiet N = then_mentions N (rule.token Newline) _ (λ _. []) (token_quiet N Newline) (λ _. give_quiet N tt)

pub newlines_quiet : (N : Naming) → Quiet N rule.newlines
newlines_quiet N = many_quiet N rule.newline (newline_quiet N)

pub natural_quiet : (N : Naming) → Quiet N rule.natural
natural_quiet N = record { goes = λ s n s' h. (token_quiet N (Natural n)).goes s h.0 s' h.1 }

pub integer_quiet : (N : Naming) → Quiet N rule.integer
integer_quiet N = record { goes = λ s n s' h. ⊎_elim (λ w. (token_quiet N (Natural n)).goes s w.0 s' w.1) (λ w. (token_quiet N (Negative n)).goes s w.0 s' w.1) h }

pub string_quiet : (N : Naming) → Quiet N rule.string
string_quiet N = record { goes = λ s n s' h. (token_quiet N Quoted).goes s h.0 s' h.1 }

pub class_quiet : (N : Naming) → Quiet N grammar.class
class_quiet N = record { goes = λ s c s' h. (word_quiet N _).goes s tt s' h }

pub spaced_mentions : {A : Type 0} (N : Naming) (p : rule.Rule A) (m : A → List ℕ) → Mentions N p m → Mentions N (reads.spaced p) m
spaced_mentions N p m hp = ended_mentions N rule.newlines p m (newlines_quiet N) hp

-- ---- operands

abbrev pub in_value : Naming → Val → List ℕ
in_value N (Int n) = []
in_value N (Temp t) = N.temp t
in_value N (Global g) = N.symbol g

abbrev pub in_destination : Naming → Dest → List ℕ
in_destination N d = N.temp d.temp

abbrev pub in_argument : Naming → Arg → List ℕ
in_argument N a = in_value N a.value

abbrev pub in_phi_argument : Naming → PhiArg → List ℕ
in_phi_argument N a = N.label a.from ++ in_value N a.value

value_mentions : (N : Naming) → Mentions N grammar.value (in_value N)
value_mentions N = record {
  goes = λ s v s' h. ⊎_elim
      (λ w. given (in_value N) w.3 ((integer_quiet N).goes s w.0 w.1 w.2))
      (λ k. ⊎_elim
      (λ w. given (in_value N) w.3 (N.temp_goes s w.0 w.1 w.2))
      (λ w. given (in_value N) w.3 (N.symbol_goes s w.0 w.1 w.2)) k) h;
}

destination_mentions : (N : Naming) → Mentions N grammar.destination (in_destination N)
destination_mentions N = record {
  goes = λ s d s' h.
      let e = h.3 in
      let c = e.3 in
      given (in_destination N) c.3 (ends (N.temp_goes s h.0 h.1 h.2) (seq ((piece_quiet N _).goes h.1 e.0 e.1 e.2) ((class_quiet N).goes e.1 c.0 c.1 c.2)));
}

argument_mentions : (N : Naming) → Mentions N grammar.argument (in_argument N)
argument_mentions N = record {
  goes = λ s a s' h.
      let v = h.3 in
      given (in_argument N) v.3 (seq ((class_quiet N).goes s h.0 h.1 h.2) ((value_mentions N).goes h.1 v.0 v.1 v.2));
}

phi_argument_mentions : (N : Naming) → Mentions N grammar.phi_argument (in_phi_argument N)
phi_argument_mentions N = record {
  goes = λ s a s' h.
      let v = h.3 in
      given (in_phi_argument N) v.3 (seq (N.label_goes s h.0 h.1 h.2) ((value_mentions N).goes h.1 v.0 v.1 v.2));
}

-- ---- lines of blocks

abbrev pub in_phi : Naming → Phi → List ℕ
in_phi N p = in_destination N p.to ++ flat_map (in_phi_argument N) p.args

phi_mentions : (N : Naming) → Mentions N grammar.phi (in_phi N)
phi_mentions N = record {
  goes = λ s p s' h.
      let d = h.3 in
      let w = d.3 in
      let a = w.3 in
      given (in_phi N) a.3 (seq ((line_quiet N).goes s h.0 h.1 h.2) (seq ((destination_mentions N).goes h.1 d.0 d.1 d.2) (seq ((word_quiet N _).goes d.1 w.0 w.1 w.2)
      ((commas_mention N grammar.comma grammar.phi_argument (in_phi_argument N) (piece_quiet N _) (phi_argument_mentions N)).goes w.1 a.0 a.1 a.2))));
}

abbrev pub in_inst : Naming → Inst → List ℕ
in_inst N (Unary to op a) = in_destination N to ++ in_value N a
in_inst N (Binary to op a b) = in_destination N to ++ (in_value N a ++ in_value N b)
in_inst N (Alloc to alignment size) = in_destination N to
in_inst N (Store size a at) = in_value N a ++ in_value N at
in_inst N (Blit from to count) = in_value N from ++ in_value N to
in_inst N (Call to callee args) = in_maybe (in_destination N) to ++ (in_value N callee ++ flat_map (in_argument N) args)

unary_mentions : (N : Naming) → Mentions N grammar.unary (in_inst N)
unary_mentions N = record {
  goes = λ s i s' h.
      let o = h.3 in
      let v = o.3 in
      let op : Goes N.names h.1 [] o.1 = ⊎_elim (λ w. (word_quiet N _).goes h.1 tt o.1 w) (λ w. (word_quiet N _).goes h.1 tt o.1 w.1) o.2 in
      given (in_inst N) v.3 (seq ((destination_mentions N).goes s h.0 h.1 h.2) (seq op ((value_mentions N).goes o.1 v.0 v.1 v.2)));
}

binary_mentions : (N : Naming) → Mentions N grammar.binary (in_inst N)
binary_mentions N = record {
  goes = λ s i s' h.
      let o = h.3 in
      let a = o.3 in
      let c = a.3 in
      let b = c.3 in
      given (in_inst N) b.3 (seq ((destination_mentions N).goes s h.0 h.1 h.2) (seq ((word_quiet N _).goes h.1 tt o.1 o.2)
      (seq ((value_mentions N).goes o.1 a.0 a.1 a.2) (seq ((piece_quiet N _).goes a.1 c.0 c.1 c.2) ((value_mentions N).goes c.1 b.0 b.1 b.2)))));
}

allocation_mentions : (N : Naming) → Mentions N grammar.allocation (in_inst N)
allocation_mentions N = record {
  goes = λ s i s' h.
      let o = h.3 in
      let n = o.3 in
      given (in_inst N) n.3 (ends ((destination_mentions N).goes s h.0 h.1 h.2) (seq ((word_quiet N _).goes h.1 tt o.1 o.2) ((natural_quiet N).goes o.1 n.0 n.1 n.2)));
}

storing_mentions : (N : Naming) → Mentions N grammar.storing (in_inst N)
storing_mentions N = record {
  goes = λ s i s' h.
      let a = h.3 in
      let c = a.3 in
      let b = c.3 in
      given (in_inst N) b.3 (seq ((word_quiet N _).goes s tt h.1 h.2)
      (seq ((value_mentions N).goes h.1 a.0 a.1 a.2) (seq ((piece_quiet N _).goes a.1 c.0 c.1 c.2) ((value_mentions N).goes c.1 b.0 b.1 b.2))));
}

blit_mentions : (N : Naming) → Mentions N grammar.blit (in_inst N)
blit_mentions N = record {
  goes = λ s i s' h.
      let a = h.3 in
      let c = a.3 in
      let b = c.3 in
      let d = b.3 in
      let n = d.3 in
      given (in_inst N) n.3 (seq ((word_quiet N _).goes s h.0 h.1 h.2)
      (seq ((value_mentions N).goes h.1 a.0 a.1 a.2) (seq ((piece_quiet N _).goes a.1 c.0 c.1 c.2)
      (ends ((value_mentions N).goes c.1 b.0 b.1 b.2) (seq ((piece_quiet N _).goes b.1 d.0 d.1 d.2) ((natural_quiet N).goes d.1 n.0 n.1 n.2))))));
}

call_mentions : (N : Naming) → Mentions N grammar.call (in_inst N)
call_mentions N = record {
  goes = λ s i s' h.
      let w = h.3 in
      let v = w.3 in
      let o = v.3 in
      let a = o.3 in
      let c = a.3 in
      given (in_inst N) c.3 (seq ((maybe_mentions N grammar.destination (in_destination N) (destination_mentions N)).goes s h.0 h.1 h.2)
      (seq ((word_quiet N _).goes h.1 w.0 w.1 w.2) (seq ((value_mentions N).goes w.1 v.0 v.1 v.2) (seq ((piece_quiet N _).goes v.1 o.0 o.1 o.2)
      (ends ((listed_mention N grammar.comma grammar.argument (in_argument N) (piece_quiet N _) (argument_mentions N)).goes o.1 a.0 a.1 a.2)
      ((piece_quiet N _).goes a.1 c.0 c.1 c.2))))));
}

lined_mentions : {A : Type 0} (N : Naming) (p : rule.Rule A) (m : A → List ℕ) → Mentions N p m → Mentions N (grammar.lined p) (λ x. m x.item)
lined_mentions {A} N p m hp = record {
  goes = λ s x s' h.
      let i = h.3 in
      given {x = x} {y = record { line = h.0; item = i.0 }} (λ (x : Lined A). m x.item) i.3 (seq ((line_quiet N).goes s h.0 h.1 h.2) (hp.goes h.1 i.0 i.1 i.2));
}

abbrev pub in_line : Naming → Lined Inst → List ℕ
in_line N i = in_inst N i.item

instruction_mentions : (N : Naming) → Mentions N grammar.instruction (in_line N)
instruction_mentions N = lined_mentions N _ (in_inst N)
    (either_mentions N _ _ (in_inst N) (unary_mentions N) (either_mentions N _ _ (in_inst N) (binary_mentions N) (either_mentions N _ _ (in_inst N) (allocation_mentions N)
    (either_mentions N _ _ (in_inst N) (storing_mentions N) (either_mentions N _ _ (in_inst N) (blit_mentions N) (call_mentions N))))))

abbrev pub in_jump : Naming → Jump → List ℕ
in_jump N (Goto l) = N.label l
in_jump N (Branch a nonzero otherwise) = in_value N a ++ (N.label nonzero ++ N.label otherwise)
in_jump N (Return a) = in_maybe (in_value N) a
in_jump N Halt = []

goto_mentions : (N : Naming) → Mentions N grammar.goto (in_jump N)
goto_mentions N = record { goes = λ s j s' h. given (in_jump N) h.3.3 (seq ((word_quiet N _).goes s h.0 h.1 h.2) (N.label_goes h.1 h.3.0 h.3.1 h.3.2)) }

branch_mentions : (N : Naming) → Mentions N grammar.branch (in_jump N)
branch_mentions N = record {
  goes = λ s j s' h.
      let a = h.3 in
      let c = a.3 in
      let l = c.3 in
      let d = l.3 in
      let o = d.3 in
      given (in_jump N) o.3 (seq ((word_quiet N _).goes s h.0 h.1 h.2) (seq ((value_mentions N).goes h.1 a.0 a.1 a.2) (seq ((piece_quiet N _).goes a.1 c.0 c.1 c.2)
      (seq (N.label_goes c.1 l.0 l.1 l.2) (seq ((piece_quiet N _).goes l.1 d.0 d.1 d.2) (N.label_goes d.1 o.0 o.1 o.2))))));
}

returning_mentions : (N : Naming) → Mentions N grammar.returning (in_jump N)
returning_mentions N = record {
  goes = λ s j s' h. given (in_jump N) h.3.3 (seq ((word_quiet N _).goes s h.0 h.1 h.2)
      ((maybe_mentions N grammar.value (in_value N) (value_mentions N)).goes h.1 h.3.0 h.3.1 h.3.2));
}

halt_mentions : (N : Naming) → Mentions N grammar.halt (in_jump N)
halt_mentions N = record { goes = λ s j s' h. given (in_jump N) h.3 ((word_quiet N _).goes s h.0 h.1 h.2) }

abbrev pub in_end : Naming → Lined Jump → List ℕ
in_end N j = in_jump N j.item

jump_mentions : (N : Naming) → Mentions N grammar.jump (in_end N)
jump_mentions N = lined_mentions N _ (in_jump N)
    (either_mentions N _ _ (in_jump N) (goto_mentions N) (either_mentions N _ _ (in_jump N) (branch_mentions N) (either_mentions N _ _ (in_jump N) (returning_mentions N) (halt_mentions N))))

-- ---- blocks and parameters

abbrev pub in_block : Naming → Block → List ℕ
in_block N b = N.label b.label ++ (flat_map (in_phi N) b.phis ++ (flat_map (in_line N) b.insts ++ in_maybe (in_end N) b.jump))

on_line_mentions : {A : Type 0} (N : Naming) (p : rule.Rule A) (m : A → List ℕ) → Mentions N p m → Mentions N (reads.on_line p) m
on_line_mentions N p m hp = ended_mentions N (rule.some rule.newline) p m (some_quiet N rule.newline (newline_quiet N)) hp

pub block_mentions : (N : Naming) → Mentions N reads.block (in_block N)
block_mentions N = record {
  goes = λ s b s' h.
      let l = h.3 in
      let n = l.3 in
      let p = n.3 in
      let i = p.3 in
      let j = i.3 in
      given (in_block N) j.3 (seq ((line_quiet N).goes s h.0 h.1 h.2) (seq (N.label_goes h.1 l.0 l.1 l.2) (seq ((some_quiet N rule.newline (newline_quiet N)).goes l.1 n.0 n.1 n.2)
      (seq ((many_mentions N _ (in_phi N) (on_line_mentions N grammar.phi (in_phi N) (phi_mentions N))).goes n.1 p.0 p.1 p.2)
      (seq ((many_mentions N _ (in_line N) (on_line_mentions N grammar.instruction (in_line N) (instruction_mentions N))).goes p.1 i.0 i.1 i.2)
      ((maybe_mentions N _ (in_end N) (on_line_mentions N grammar.jump (in_end N) (jump_mentions N))).goes i.1 j.0 j.1 j.2))))));
}

abbrev pub in_parameter : Naming → Param → List ℕ
in_parameter N p = N.temp p.temp

pub parameter_mentions : (N : Naming) → Mentions N reads.parameter (in_parameter N)
parameter_mentions N = record {
  goes = λ s p s' h.
      let c = h.3 in
      let t = c.3 in
      given (in_parameter N) t.3 (seq ((line_quiet N).goes s h.0 h.1 h.2) (seq ((class_quiet N).goes h.1 c.0 c.1 c.2) (N.temp_goes c.1 t.0 t.1 t.2)));
}

-- ---- a block without a jump

same_behind : (ks ls others : List ℕ) → ((n : ℕ) → come_after n ls ≡ come_after n others) → (n : ℕ) → come_after n (ks ++ ls) ≡ come_after n (ks ++ others)
same_behind [] ls others e n = e n
same_behind (k ∷ ks) ls others e n =
    ap (λ o. cond (nat_lt k n) o (cond (nat_eq k n) (come_after (n + 1) (ks ++ ls)) None)) (same_behind ks ls others e n)
    ∙ ap (λ o. cond (nat_lt k n) (come_after n (ks ++ others)) (cond (nat_eq k n) o None)) (same_behind ks ls others e (n + 1))

-- a block of which the jump mentions these numbers
abbrev Block_to : Naming → Block → List ℕ → List ℕ
Block_to N b ks = N.label b.label ++ (flat_map (in_phi N) b.phis ++ (flat_map (in_line N) b.insts ++ ks))

regroup : (N : Naming) (b : Block) (ks ls : List ℕ) → Block_to N b ks ++ ls ≡ Block_to N b (ks ++ ls)
regroup N b ks ls =
    append_assoc (N.label b.label) _ ls
    ∙ ap (λ xs. N.label b.label ++ xs) (append_assoc (flat_map (in_phi N) b.phis) _ ls
    ∙ ap (λ xs. flat_map (in_phi N) b.phis ++ xs) (append_assoc (flat_map (in_line N) b.insts) ks ls))

same_within : (N : Naming) (b : Block) (ks ls : List ℕ) → ((n : ℕ) → come_after n ks ≡ come_after n ls) → (n : ℕ) → come_after n (Block_to N b ks) ≡ come_after n (Block_to N b ls)
same_within N b ks ls e = same_behind (N.label b.label) _ _ (same_behind (flat_map (in_phi N) b.phis) _ _ (same_behind (flat_map (in_line N) b.insts) ks ls e))

-- the label that it goes to is the next that is read
pub falling_same : (N : Naming) (bs : List Block) (n : ℕ) → come_after n (flat_map (in_block N) (reads.falling bs)) ≡ come_after n (flat_map (in_block N) bs)
falling_same N [] n = refl
falling_same N (b ∷ []) n = refl
falling_same N (b ∷ next ∷ bs) n = at b.jump n (falling_same N (next ∷ bs))
  where
    at : (jump : Option (Lined Jump)) (n : ℕ) → ((n : ℕ) → come_after n (flat_map (in_block N) (reads.falling (next ∷ bs))) ≡ come_after n (flat_map (in_block N) (next ∷ bs)))
        → come_after n (Block_to N b (in_end N (reads.jump_to next jump)) ++ flat_map (in_block N) (reads.falling (next ∷ bs)))
        ≡ come_after n (Block_to N b (in_maybe (in_end N) jump) ++ flat_map (in_block N) (next ∷ bs))
    at (Some j) n later = same_behind (Block_to N b (in_end N j)) _ _ later n
    at None n later =
        let label = N.label next.label in
        let rest = flat_map (in_phi N) next.phis ++ (flat_map (in_line N) next.insts ++ in_maybe (in_end N) next.jump) in
        let others = flat_map (in_block N) bs in
        let here : (n : ℕ) → come_after n (label ++ flat_map (in_block N) (reads.falling (next ∷ bs))) ≡ come_after n ((label ++ rest) ++ others) =
        λ n. same_behind label _ _ later n
        ∙ ap (λ xs. come_after n (label ++ xs)) (append_assoc label rest others)
        ∙ N.once next.label n (rest ++ others)
        ∙ ap (come_after n) (sym (append_assoc label rest others)) in
        ap (come_after n) (regroup N b label (flat_map (in_block N) (reads.falling (next ∷ bs))))
        ∙ same_within N b _ _ here n
        ∙ ap (come_after n) (sym (regroup N b [] (flat_map (in_block N) (next ∷ bs))))

-- ---- data

abbrev pub in_item : Naming → Item → List ℕ
in_item N (NumberItem n) = []
in_item N (Bytes bytes) = []
in_item N (Address g offset) = N.symbol g

item_mentions : (N : Naming) → Mentions N reads.item (in_item N)
item_mentions N = record {
  goes = λ s x s' h. ⊎_elim
      (λ w. given (in_item N) w.3 ((spaced_mentions N rule.integer (λ _. []) (integer_quiet N)).goes s w.0 w.1 w.2))
      (λ k. ⊎_elim
      (λ w. given (in_item N) w.3 ((spaced_mentions N rule.string (λ _. []) (string_quiet N)).goes s w.0 w.1 w.2))
      (λ w. given (in_item N) w.3.3 (ends ((spaced_mentions N rule.symbol N.symbol (record { goes = N.symbol_goes })).goes s w.0 w.1 w.2)
      ((maybe_quiet N _ (then_mentions N (reads.spaced (rule.piece _)) _ (λ _. []) (spaced_mentions N (rule.piece _) (λ _. []) (piece_quiet N _))
      (λ _. spaced_mentions N rule.natural (λ _. []) (natural_quiet N)))).goes w.1 w.3.0 w.3.1 w.3.2))) k) h;
}

abbrev pub in_field : Naming → DataField → List ℕ
in_field N (Items size xs) = flat_map (in_item N) xs
in_field N (Zeros n) = []

pub field_mentions : (N : Naming) → Mentions N (rule.◌∥◌ reads.items reads.zeros) (in_field N)
field_mentions N = record {
  goes = λ s x s' h. ⊎_elim
      (λ w. given (in_field N) w.3.3 (seq ((spaced_mentions N reads.size (λ _. []) (record { goes = λ s c s' h. (word_quiet N _).goes s tt s' h })).goes s w.0 w.1 w.2)
      ((some_mentions N reads.item (in_item N) (item_mentions N)).goes w.1 w.3.0 w.3.1 w.3.2)))
      (λ w. given (in_field N) w.3.3 (seq ((spaced_mentions N (rule.word _) (λ _. []) (word_quiet N _)).goes s w.0 w.1 w.2)
      ((spaced_mentions N rule.natural (λ _. []) (natural_quiet N)).goes w.1 w.3.0 w.3.1 w.3.2))) h;
}
