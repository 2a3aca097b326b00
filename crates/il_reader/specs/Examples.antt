-- Which trees some small texts have, and some texts that have none.
use Rattle.std.specs.Prelude.{ℕ, ◌-◌, ◌^◌, true, false, List, [], ◌∷◌, codes, Some, None, refl}
use Rattle.il_ast.specs.declared.operation.Class.{Class}
use Rattle.il_ast.specs.declared.operation.Class.TheVariants.{W, L}
use Rattle.il_ast.specs.declared.operation.Size.TheVariants.{Byte, Long}
use Rattle.il_ast.specs.declared.operation.Extension.TheVariants.{SignedWord}
use Rattle.il_ast.specs.declared.operation.UnaryOp.TheVariants.{Load}
use Rattle.il_ast.specs.declared.operation.BinaryOp.TheVariants.{Add}
use Rattle.il_ast.specs.declared.operand.Val.TheVariants.{Int, Temp, Global}
use Rattle.il_ast.specs.declared.operand.Dest.{Dest}
use Rattle.il_ast.specs.declared.instruction.Inst.TheVariants.{Unary, Binary, Store, Call}
use Rattle.il_ast.specs.declared.instruction.Jump.TheVariants.{Goto, Branch, Return}
use Rattle.il_ast.specs.declared.instruction.Lined.{Lined}
use Rattle.il_ast.specs.declared.datum.Item.TheVariants.{Int as Number, Bytes, Address}
use Rattle.il_ast.specs.declared.datum.Field.TheVariants.{Items, Zeros}
use Rattle.il_ast.specs.declared.text.Definition.TheVariants.{Function, Object}
use Rattle.il_ast.specs.declared.text.Text.{Text}
use Rattle.il_reader.specs.Reads.{Reads}

-- ---- parts

abbrev on : {A : Type 0} → ℕ → A → Lined A
on n x = record { line = n; item = x }

abbrev to : ℕ → Class → Dest
to t c = record { temp = t; class = c }

-- ---- data

abbrev pub empty_text : List ℕ
empty_text = codes "# no definition\n"

abbrev pub empty_tree : Text
empty_tree =
    record {
      definitions = [];
      symbols = [];
      lines = 2;
      bytes = 16;
      symbols_in_order = refl;
      symbols_distinct = refl;
    }

-- a comma may stand behind the last field
abbrev pub data_text : List ℕ
data_text = codes "data $d = { b 1 -2, z 3, }"

abbrev pub data_tree : Text
data_tree = record {
  definitions =
      Object (record {
        line = 1;
        exported = false;
        name = 0;
        alignment = 8;
        fields = Items Byte (Number 1 ∷ Number (2 ^ 64 - 2) ∷ []) ∷ Zeros 3 ∷ [];
      }) ∷ [];
  symbols = codes "d" ∷ [];
  lines = 1;
  bytes = 26;
  symbols_in_order = refl;
  symbols_distinct = refl;
}

-- inside data the ends of lines are spacing
abbrev pub table_text : List ℕ
table_text = codes "export\ndata $d = align 4 {\n l $g + 8 $d\n, b \"a\\0\" }\n"

abbrev pub table_tree : Text
table_tree = record {
  definitions =
      Object (record {
        line = 2;
        exported = true;
        name = 0;
        alignment = 4;
        fields = Items Long (Address 1 8 ∷ Address 0 0 ∷ []) ∷ Items Byte (Bytes (97 ∷ 0 ∷ []) ∷ [])
            ∷ [];
      }) ∷ [];
  symbols = codes "d" ∷ codes "g" ∷ [];
  lines = 5;
  bytes = 52;
  symbols_in_order = refl;
  symbols_distinct = refl;
}

-- ---- functions

-- @a goes to @b; the names of another function begin anew
abbrev pub falls_text : List ℕ
falls_text =
    codes "function w $f(w %x) {\n@a\n%y =w add %x, 1\n@b\nret %y\n}\nfunction $g() {\n@b\n%r =l call $f(w 7,)\nret\n}"

abbrev pub falls_tree : Text
falls_tree = record {
  definitions =
      Function (record {
        line = 1;
        exported = false;
        name = 0;
        result = Some W;
        params = record { line = 1; temp = 0; class = W } ∷ [];
        blocks =
            record {
              line = 2;
              label = 0;
              phis = [];
              insts = on 3 (Binary (to 1 W) Add (Temp 0) (Int 1)) ∷ [];
              jump =
                  Some (on 4 (Goto 1));
            }
            ∷ record {
              line = 4;
              label = 1;
              phis = [];
              insts = [];
              jump = Some (on 5 (Return (Some (Temp 1))));
            }
            ∷ [];
        temps = codes "x" ∷ codes "y" ∷ [];
        labels = codes "a" ∷ codes "b" ∷ [];
        temps_in_order = refl;
        labels_in_order = refl;
        temps_distinct = refl;
        labels_distinct = refl;
        some_block = refl;
        some_argument = refl;
      })
      ∷ Function (record {
        line = 7;
        exported = false;
        name = 1;
        result = None;
        params = [];
        blocks = record {
          line = 8;
          label = 0;
          phis = [];
          insts = on 9 (Call (Some (to 0 L)) (Global 0)
              (record { class = W; value = Int 7 } ∷ [])) ∷ [];
          jump = Some (on 10 (Return None));
        }
            ∷ [];
        temps = codes "r" ∷ [];
        labels = codes "b" ∷ [];
        temps_in_order = refl;
        labels_in_order = refl;
        temps_distinct = refl;
        labels_distinct = refl;
        some_block = refl;
        some_argument = refl;
      })
      ∷ [];
  symbols = codes "f" ∷ codes "g" ∷ [];
  lines = 11;
  bytes = 97;
  symbols_in_order = refl;
  symbols_distinct = refl;
}

-- a phi names a temporary and labels before they are defined; the last block may lack a jump
abbrev pub loop_text : List ℕ
loop_text = codes
    "function $f() {\n@a\njmp @l\n@l\n%i =w phi @a 0, @l %j\n%j =w loadw $p\njnz %j, @l, @e\n@e\nstorel %i, $p\n}\n"

abbrev pub loop_tree : Text
loop_tree = record {
  definitions =
      Function (record {
        line = 1;
        exported = false;
        name = 0;
        result = None;
        params = [];
        blocks =
            record { line = 2; label = 0; phis = []; insts = []; jump = Some (on 3 (Goto 1)) }
            ∷ record {
              line = 4;
              label = 1;
              phis = record {
                line = 5;
                to = to 0 W;
                args = record { from = 0; value = Int 0 } ∷ record { from = 1; value = Temp 1 }
                    ∷ [];
              } ∷ [];
              insts = on 6 (Unary (to 1 W) (Load SignedWord) (Global 1)) ∷ [];
              jump = Some (on 7 (Branch (Temp 1) 1 2));
            }
            ∷ record {
              line = 8;
              label = 2;
              phis = [];
              insts = on 9 (Store Long (Temp 0) (Global 1)) ∷ [];
              jump = None;
            }
            ∷ [];
        temps = codes "i" ∷ codes "j" ∷ [];
        labels = codes "a" ∷ codes "l" ∷ codes "e" ∷ [];
        temps_in_order = refl;
        labels_in_order = refl;
        temps_distinct = refl;
        labels_distinct = refl;
        some_block = refl;
        some_argument = refl;
      })
      ∷ [];
  symbols = codes "f" ∷ codes "p" ∷ [];
  lines = 11;
  bytes = 100;
  symbols_in_order = refl;
  symbols_distinct = refl;
}

-- ---- the examples

-- no tree
abbrev pub Unread : List ℕ → Type 0
Unread bytes = (text : Text) → ¬ Reads bytes text

pub record Examples : Type 0 where
  pub empty : Reads empty_text empty_tree
  pub data_is_read : Reads data_text data_tree
  pub table_is_read : Reads table_text table_tree
  pub falls_is_read : Reads falls_text falls_tree
  pub loop_is_read : Reads loop_text loop_tree
  pub no_field : Unread (codes "data $d = { }")
  pub no_item : Unread (codes "data $d = { b }")
  pub two_commas : Unread (codes "data $d = { b 1,, }")
  pub longer_word : Unread (codes "datas $d = { b 1 }")
  pub no_block : Unread (codes "function $f() {\n}")
  pub label_behind_brace : Unread (codes "function $f() { @a\nret\n}")
  pub late_phi : Unread (codes "function $f() {\n@a\n%x =w copy 1\n%y =w phi @a 1\nret\n}")
  pub behind_the_jump : Unread (codes "function $f() {\n@a\nret\nret\n}")
  pub one_line : Unread (codes "data $d = { b 1 } data $e = { b 1 }")
  pub no_token : Unread (codes "data $d = { b 1 }\n%")
