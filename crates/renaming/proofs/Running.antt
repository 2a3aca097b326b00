-- Code by other names follows the code: each name holds what its register holds.
use Rattle.std.proofs.Common.{◌≡◌, ℕ, zero, suc, ◌+◌, Bool, true, false, ◌&&◌, nat_eq, if◌then◌else◌, List, [], ◌∷◌, Option, Some, None, refl, sym, ◌∙◌, ap, subst, slice_get, arith}
use Rattle.std.specs.List.{list_all}
use Rattle.std.specs.Option.{option_map, option_map_or}
use Rattle.std.proofs.lemmas.Bool.{and_parts, eqb-true}
use Rattle.il_ast.specs.declared.value.Value.{Value}
use Rattle.il_ast.specs.declared.value.Value.TheVariants.{Integer, Pointer, Function}
use Rattle.il_ast.specs.Prelude.{Memory, KeepsCode}
use Rattle.il_ast.proofs.Truth.{equal_turned}
use Rattle.vcode.specs.declared.place.Operand.{Operand}
use Rattle.vcode.specs.declared.place.Operand.TheVariants.{At, Number, Name}
use Rattle.vcode.specs.declared.place.Argument.{Argument}
use Rattle.vcode.specs.declared.line.Line.{Line}
use Rattle.vcode.specs.declared.line.Line.TheVariants.{Tick, Set, Operate, Load, Store, Alloc, Blit, Call}
use Rattle.vcode.specs.declared.line.Jump.{Jump}
use Rattle.vcode.specs.declared.line.Jump.TheVariants.{Goto, Branch, Return, Halt}
use Rattle.vcode.specs.declared.code.Block.{Block}
use Rattle.vcode.specs.declared.code.Code.{Code}
use Rattle.vcode.specs.Prelude.{Values, virtual, unknown, with_these, classes_in, value_of, read_all, bound, begin, step, with_line, line_writes, asked, act, written, way, Claims, Alike, Arrives, LeadAlike, Follows, Jumps, Both, Rewrites}
use Rattle.vcode.proofs.Alike.{lines_alike}
use Rattle.vcode.proofs.SameReads.{SameValue}
use Rattle.vcode.proofs.SameActs.{ArgumentsRead, Reads, JumpReads, act_same, writes_stay}
use Rattle.vcode.proofs.Leading.{LeadsTo, Arriving, jump_put}
use Rattle.vcode.proofs.Writing.{unwritten, now_holds}
use Rattle.vcode.proofs.Rewriting.{rewrites_keep}
use Rattle.renaming.specs.declared.plan.Renamed.{Renamed}
use Rattle.renaming.specs.Renamed.{Owners, Names, is_plain, is_name, plain_names, called, all_called, behind, has_name, name_or, read_by, is_named, reads_named, jump_named, with_destination, IsRenamed, are_names, are_met, start_at, names_at, jump_meets, IsEnded, IsRenamedBlock, AllRenamed, keep_names}
use Rattle.renaming.proofs.Sound.{Sound, names_apart, plain_sound, all_sound, all_lines}

-- each name holds what its register holds
abbrev Holds : Names → (before after : Values ℕ) → Type 0
Holds names before after = (r n : ℕ) → names r ≡ Some n → after n ≡ before r

-- ---- what is read

value_same : (globals : List Value) (before after : Values ℕ) (names : Names) → Holds names before after → (a : Operand ℕ) → is_named names a ≡ true → SameValue globals before after (read_by names) a
value_same globals before after names holds (At r) h = by (names r) refl h
  where
    by : (x : Option ℕ) → names r ≡ x → option_map_or (λ n. true) x false ≡ true → after (name_or x r) ≡ before r
    by (Some n) e h = holds r n e
    by None e h = absurd (let no : ⊥ = cc in no)
value_same globals before after names holds (Number n) h = refl
value_same globals before after names holds (Name g) h = refl

module _ (globals : List Value) (before after : Values ℕ) (names : Names) (holds : Holds names before after) where
  abbrev Same : Operand ℕ → Type 0
  Same = SameValue globals before after (read_by names)

  two_same : (a b : Operand ℕ) → (is_named names a && is_named names b) ≡ true → Same a × Same b
  two_same a b h =
      let s = and_parts (is_named names a) (is_named names b) h in (value_same globals before after names holds a s.0, value_same globals before after names holds b s.1)

  args_same : (args : List (Argument ℕ)) → list_all (λ (a : Argument ℕ). is_named names a.value) args ≡ true → ArgumentsRead Same args
  args_same [] h = tt
  args_same (a ∷ args) h =
      let s = and_parts (is_named names a.value) (list_all (λ (b : Argument ℕ). is_named names b.value) args) h in
      (value_same globals before after names holds a.value s.0, args_same args s.1)

  reads_same : (l : Line ℕ) → reads_named names l ≡ true → Reads Same l
  reads_same (Tick turn w) h = tt
  reads_same (Set to a) h = value_same globals before after names holds a h
  reads_same (Operate to op a b) h = two_same a b h
  reads_same (Load to op at) h = value_same globals before after names holds at.base h
  reads_same (Store size a at) h = two_same a at.base h
  reads_same (Alloc to size) h = tt
  reads_same (Blit from to count) h = two_same from to h
  reads_same (Call to callee args) h =
      let s = and_parts (is_named names callee) (list_all (λ (a : Argument ℕ). is_named names a.value) args) h in
      (value_same globals before after names holds callee s.0, args_same args s.1)

  jump_same : (j : Jump ℕ) → jump_named names j ≡ true → JumpReads Same j
  jump_same (Goto k) h = tt
  jump_same (Branch on met otherwise) h = two_same on.left on.right h
  jump_same (Return None) h = tt
  jump_same (Return (Some a)) h = value_same globals before after names holds a.value h
  jump_same Halt h = tt

-- ---- what is written

act_elsewhere : (globals : List Value) (memory : Memory) (values : Values ℕ) (n : ℕ) (l : Line ℕ) → act globals memory values (with_destination n l) ≡ act globals memory values l
act_elsewhere globals memory values n (Tick turn w) = refl
act_elsewhere globals memory values n (Set to a) = refl
act_elsewhere globals memory values n (Operate to op a b) = refl
act_elsewhere globals memory values n (Load to op at) = refl
act_elsewhere globals memory values n (Store size a at) = refl
act_elsewhere globals memory values n (Alloc None size) = refl
act_elsewhere globals memory values n (Alloc (Some to) size) = refl
act_elsewhere globals memory values n (Blit from to count) = refl
act_elsewhere globals memory values n (Call None callee args) = refl
act_elsewhere globals memory values n (Call (Some d) callee args) = calls (value_of globals values callee) (read_all globals values args)
  where
    calls : (x : Option Value) (vs : Option (List Value)) → asked (Some (record { place = n; class = d.class })) args x vs ≡ asked (Some d) args x vs
    calls (Some (Function f)) (Some vs) = refl
    calls (Some (Function f)) None = refl
    calls (Some (Integer k)) vs = refl
    calls (Some (Pointer b k)) vs = refl
    calls None vs = refl

pub writes_elsewhere : (n : ℕ) (l : Line ℕ) → line_writes (with_destination n l) ≡ option_map (λ r. n) (line_writes l)
writes_elsewhere n (Tick turn w) = refl
writes_elsewhere n (Set to a) = refl
writes_elsewhere n (Operate to op a b) = refl
writes_elsewhere n (Load to op at) = refl
writes_elsewhere n (Store size a at) = refl
writes_elsewhere n (Alloc None size) = refl
writes_elsewhere n (Alloc (Some to) size) = refl
writes_elsewhere n (Blit from to count) = refl
writes_elsewhere n (Call None callee args) = refl
writes_elsewhere n (Call (Some d) callee args) = refl

called_holds : (o : Owners) (names : Names) (r n : ℕ) → Sound o names → is_name o r n ≡ true → (before after : Values ℕ) → Holds names before after → (v : Option Value)
    → Holds (called names r n) (written (Some r) v before) (written (Some n) v after)
called_holds o names r n sound h before after holds v q m = by (nat_eq q r) refl
  where
    by : (b : Bool) → nat_eq q r ≡ b → (if b then Some n else names q) ≡ Some m → written (Some n) v after m ≡ (if b then v else before q)
    by true e is = let same : n ≡ m = cc in ap (written (Some n) v after) (sym same) ∙ now_holds n v after
    by false e is =
        let apart : nat_eq m n ≡ false = names_apart o q r m n (sound.fit q m is) h e in
        unwritten (Some n) v after m (equal_turned n m ∙ apart) ∙ holds q m is

behind_holds : (o : Owners) (names : Names) (w : Option ℕ) (n : ℕ) → Sound o names → option_map_or (λ r. is_name o r n) w true ≡ true → (before after : Values ℕ) → Holds names before after → (v : Option Value)
    → Holds (behind names w n) (written w v before) (written (option_map (λ r. n) w) v after)
behind_holds o names None n sound h before after holds v = holds
behind_holds o names (Some r) n sound h before after holds v = called_holds o names r n sound h before after holds v

-- ---- the code follows

module _ (o : Owners) (starts : List (List Renamed)) where
  abbrev claims : Claims
  claims =
      record {
        Claim = Names;
        holds = λ names globals memory before after. Holds names before after;
        arrives = λ names k n. (n ≡ k) × (names ≡ names_at o starts k);
      }

  line_alike : (names next : Names) (l m : Line ℕ) → Sound o names → IsRenamed o names l m next → Alike claims names next l m
  line_alike names next l m sound is globals memory before after holds =
      lines_alike (λ later b a. Holds next b a) globals memory before after l m
      (λ works.
      ap (act globals memory after) is.line ∙ act_elsewhere globals memory after is.name (with_line (read_by names) l)
      ∙ act_same globals memory before after (read_by names) l (reads_same globals before after names holds l is.named))
      (λ v later may.
      let writes : option_map (λ r. is.name) (line_writes l) ≡ line_writes m =
      sym (ap line_writes is.line ∙ writes_elsewhere is.name (with_line (read_by names) l) ∙ ap (option_map (λ r. is.name)) (writes_stay (read_by names) l)) in
      subst (λ (g : Names). Holds g (written (line_writes l) v before) (written (line_writes m) v after)) (sym is.behind_it)
      (subst (λ (w : Option ℕ). Holds (behind names (line_writes l) is.name) (written (line_writes l) v before) (written w v after)) writes
      (behind_holds o names (line_writes l) is.name sound is.fits before after holds v)))

  -- names that a block begins with, where they are met
  met_names : (names : Names) (xs : List Renamed) (base : Names) → ((r n : ℕ) → base r ≡ Some n → names r ≡ Some n) → are_met names xs ≡ true → (r n : ℕ) → all_called base xs r ≡ Some n → names r ≡ Some n
  met_names names [] base less h = less
  met_names names (x ∷ xs) base less h =
      let s = and_parts (has_name (names x.register) x.name) (are_met names xs) h in
      met_names names xs (called base x.register x.name) (λ r n. one r n (nat_eq r x.register) refl s.0) s.1
    where
      has : (y : Option ℕ) (n : ℕ) → has_name y n ≡ true → y ≡ Some n
      has None n h = absurd (let no : ⊥ = cc in no)
      has (Some m) n h = ap Some (eqb-true m n h)

      one : (r n : ℕ) (b : Bool) → nat_eq r x.register ≡ b → has_name (names x.register) x.name ≡ true → (if b then Some x.name else base r) ≡ Some n → names r ≡ Some n
      one r n true e here is = ap names (eqb-true r x.register e) ∙ has (names x.register) x.name here ∙ is
      one r n false e here is = less r n is

  plain_met : (names : Names) → Sound o names → (r n : ℕ) → plain_names o r ≡ Some n → names r ≡ Some n
  plain_met names sound r n = by (is_plain o r) refl
    where
      by : (b : Bool) → is_plain o r ≡ b → (if b then Some r else None) ≡ Some n → names r ≡ Some n
      by true e is = sound.plain r e ∙ is
      by false e is = absurd (let no : ⊥ = cc in no)

  arrives_at : (names : Names) → Sound o names → (globals : List Value) (memory : Memory) (before after : Values ℕ) → Holds names before after → (k : ℕ) → are_met names (start_at starts k) ≡ true
      → Arriving claims globals memory before after (λ i. i) k
  arrives_at names sound globals memory before after holds k met = (
    names_at o starts k,
    ((refl, refl), λ r n is. holds r n (met_names names (start_at starts k) (plain_names o) (plain_met names sound) met r n is)),
  )

  leads : (names : Names) → Sound o names → (globals : List Value) (memory : Memory) (before after : Values ℕ) → Holds names before after → (j : Jump ℕ) → jump_meets names starts j ≡ true
      → LeadsTo (Arriving claims globals memory before after (λ i. i)) j
  leads names sound globals memory before after holds (Goto k) h = arrives_at names sound globals memory before after holds k h
  leads names sound globals memory before after holds (Branch on met otherwise) h =
      let s = and_parts (are_met names (start_at starts met)) (are_met names (start_at starts otherwise)) h in
      (arrives_at names sound globals memory before after holds met s.0, arrives_at names sound globals memory before after holds otherwise s.1)
  leads names sound globals memory before after holds (Return a) h = tt
  leads names sound globals memory before after holds Halt h = tt

  pub begins_sound : (k : ℕ) → are_names o (start_at starts k) ≡ true → Sound o (names_at o starts k)
  begins_sound k h = all_sound o (start_at starts k) (plain_names o) (plain_sound o) h

  module _ (v w : Code ℕ) where
    jump_alike : (names : Names) (j : Jump ℕ) (d : Block ℕ) → Sound o names → IsEnded names starts j d d.lines → LeadAlike claims v.result names j d.jump
    jump_alike names j d sound is globals memory before after holds =
        subst (λ (x : Jump ℕ). Arrives claims globals memory before after (way globals v.result memory before j) (way globals v.result memory after x)) (sym is.jump)
        (jump_put claims globals memory before after v.result (read_by names) j (jump_same globals before after names holds j is.named)
        (leads names sound globals memory before after holds j is.meets))

    block_follows : (k : ℕ) (b d : Block ℕ) → IsRenamedBlock o starts k b d → Follows claims v w (names_at o starts k) b.lines b.jump d.lines d.jump
    block_follows k b d is =
        all_lines o (λ names ls ms. Follows claims v w names ls b.jump ms d.jump) (λ names next l m ls ms sound one rest. Both (line_alike names next l m sound one) rest) is.lines
        (begins_sound k is.begins) (λ sound. Jumps (jump_alike is.names b.jump d sound is.ended))

  -- the block in the place of the k-th
  block_at : (bs ds : List (Block ℕ)) (i k : ℕ) (b : Block ℕ) → AllRenamed o starts i bs ds → slice_get bs k ≡ Some b → (d : Block ℕ) × ((slice_get ds k ≡ Some d) × IsRenamedBlock o starts (i + k) b d)
  block_at [] ds i k b all at = absurd (let no : ⊥ = cc in no)
  block_at (c ∷ bs) [] i k b all at = absurd all
  block_at (c ∷ bs) (d ∷ ds) i zero b all at =
      (d, (refl, (let here : i ≡ i + zero = omega arith in let same : c ≡ b = cc in subst (λ n. IsRenamedBlock o starts n b d) here (subst (λ (x : Block ℕ). IsRenamedBlock o starts i x d) same all.0))))
  block_at (c ∷ bs) (d ∷ ds) i (suc k) b all at =
      let rest = block_at bs ds (i + 1) k b all.1 at in
      (rest.0, (rest.1.0, (let next : i + 1 + k ≡ i + suc k = omega arith in subst (λ n. IsRenamedBlock o starts n b rest.0) next rest.1.1)))

  own_names : (xs : List Renamed) (base : Names) → ((r n : ℕ) → base r ≡ Some n → n ≡ r) → keep_names xs ≡ true → (r n : ℕ) → all_called base xs r ≡ Some n → n ≡ r
  own_names [] base own h = own
  own_names (x ∷ xs) base own h =
      let s = and_parts (nat_eq x.register x.name) (keep_names xs) h in
      own_names xs (called base x.register x.name) (λ r n. one r n (nat_eq r x.register) refl s.0) s.1
    where
      one : (r n : ℕ) (b : Bool) → nat_eq r x.register ≡ b → nat_eq x.register x.name ≡ true → (if b then Some x.name else base r) ≡ Some n → n ≡ r
      one r n true e same is = let here : x.name ≡ n = cc in sym here ∙ sym (eqb-true x.register x.name same) ∙ sym (eqb-true r x.register e)
      one r n false e same is = own r n is

  own_plain : (r n : ℕ) → plain_names o r ≡ Some n → n ≡ r
  own_plain r n = by (is_plain o r)
    where
      by : (b : Bool) → (if b then Some r else None) ≡ Some n → n ≡ r
      by true is = (let here : r ≡ n = cc in sym here)
      by false is = absurd (let no : ⊥ = cc in no)

  rewrites : (v : Code ℕ) (blocks : List (Block ℕ)) → AllRenamed o starts 0 v.blocks blocks → keep_names (start_at starts 0) ≡ true → Rewrites claims v (with_these v blocks)
  rewrites v blocks all own =
      record {
        result = refl;
        first = names_at o starts 0;
        arrives = (refl, refl);
        begins = λ globals i args r n is. ap (λ k. bound virtual unknown v.params i.args k) (own_names (start_at starts 0) (plain_names o) own_plain own r n is);
        follows = λ names k n arrives b at.
            let found = block_at v.blocks blocks 0 k b all at in (
              found.0,
              (
                ap (slice_get blocks) arrives.0 ∙ found.1.0,
                subst (λ (x : Names). Follows claims v (with_these v blocks) x b.lines b.jump found.0.lines found.0.jump)
                    ((let e : 0 + k ≡ k = omega arith in ap (names_at o starts) e) ∙ sym arrives.1) (block_follows v (with_these v blocks) (0 + k) b found.0 found.1.1),
              ),
            );
      }

  pub runs : (v : Code ℕ) (blocks : List (Block ℕ)) → AllRenamed o starts 0 v.blocks blocks → keep_names (start_at starts 0) ≡ true → (globals : List Value)
      → KeepsCode (classes_in v.params) (begin virtual v) (step virtual globals v) (begin virtual (with_these v blocks)) (step virtual globals (with_these v blocks))
  runs v blocks all own globals = rewrites_keep claims v (with_these v blocks) (rewrites v blocks all own) globals
