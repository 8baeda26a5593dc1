-- Keywords and names.
use Rattle.std.proofs.Common.{◌≡◌, ℕ, List, true, refl, ap, ◌∙◌, codes}
use Rattle.fort_tree.specs.declared.statement.Token.{Token}
use Rattle.fort_tree.specs.Name.{IsName, is_name, lowercase}
use Rattle.fort_tree.specs.Token.{is_token}
use Rattle.fort_grammar.specs.declared.class.Class.{Class}
use Rattle.fort_grammar.specs.declared.class.Class.TheVariants as class
use Rattle.fort_grammar.specs.Token.{text_class, token_class}
use Rattle.fort_expr.specs.Expression as g
use Rattle.fort_expr.specs.Expression.{IsReferred}
use Rattle.fort_expr.proofs.Names.{referred-name}
use Rattle.layout_reading.proofs.Expressions.{real_lower}

-- A keyword: a name whose class is this.
pub record Keyword (text : List ℕ) (c : Class) : Type 0 where
  pub class_is : text_class text ≡ c
  pub is_name : IsName text

pub keyword : (q : Token) (text : List ℕ) (c : Class) → Keyword text c → q.text ≡ text → token_class q ≡ c
keyword q text c k e = ap text_class e ∙ k.class_is

-- a name that no keyword is
abbrev pub Free : List ℕ → Type 0
Free text = Keyword text class.Name

pub token_free : (t : Token) → is_token t.text ≡ true → token_class t ≡ class.Name → Free (lowercase t.text)
token_free t real h =
    let lower : lowercase t.text ≡ t.text = real_lower t.text real in
    record {
      class_is = ap text_class lower ∙ h;
      is_name = record { form = ap is_name lower ∙ referred-name t.text (g.a_name h); lower = ap lowercase lower };
    }

pub free_lower : (q : Token) (text : List ℕ) → Free text → q.text ≡ text → lowercase q.text ≡ text
free_lower q text f e = ap lowercase e ∙ f.is_name.lower

pub k_module : Keyword (codes "module") class.Module
unfolding text_class
k_module = record { class_is = refl; is_name = record { form = refl; lower = refl } }

pub k_contains : Keyword (codes "contains") class.Contains
unfolding text_class
k_contains = record { class_is = refl; is_name = record { form = refl; lower = refl } }

pub k_end : Keyword (codes "end") class.End
unfolding text_class
k_end = record { class_is = refl; is_name = record { form = refl; lower = refl } }

pub k_subroutine : Keyword (codes "subroutine") class.Subroutine
unfolding text_class
k_subroutine = record { class_is = refl; is_name = record { form = refl; lower = refl } }

pub k_function : Keyword (codes "function") class.Function
unfolding text_class
k_function = record { class_is = refl; is_name = record { form = refl; lower = refl } }

pub k_result : Keyword (codes "result") class.Result
unfolding text_class
k_result = record { class_is = refl; is_name = record { form = refl; lower = refl } }

pub k_use : Keyword (codes "use") class.Use
unfolding text_class
k_use = record { class_is = refl; is_name = record { form = refl; lower = refl } }

pub k_only : Keyword (codes "only") class.Only
unfolding text_class
k_only = record { class_is = refl; is_name = record { form = refl; lower = refl } }

pub k_implicit : Keyword (codes "implicit") class.Implicit
unfolding text_class
k_implicit = record { class_is = refl; is_name = record { form = refl; lower = refl } }

pub k_none : Keyword (codes "none") class.None
unfolding text_class
k_none = record { class_is = refl; is_name = record { form = refl; lower = refl } }

pub k_integer : Keyword (codes "integer") class.Integer
unfolding text_class
k_integer = record { class_is = refl; is_name = record { form = refl; lower = refl } }

pub k_logical : Keyword (codes "logical") class.Logical
unfolding text_class
k_logical = record { class_is = refl; is_name = record { form = refl; lower = refl } }

pub k_parameter : Keyword (codes "parameter") class.Parameter
unfolding text_class
k_parameter = record { class_is = refl; is_name = record { form = refl; lower = refl } }

pub k_intent : Keyword (codes "intent") class.Intent
unfolding text_class
k_intent = record { class_is = refl; is_name = record { form = refl; lower = refl } }

pub k_in : Keyword (codes "in") class.In
unfolding text_class
k_in = record { class_is = refl; is_name = record { form = refl; lower = refl } }

pub k_out : Keyword (codes "out") class.Out
unfolding text_class
k_out = record { class_is = refl; is_name = record { form = refl; lower = refl } }

pub k_inout : Keyword (codes "inout") class.Inout
unfolding text_class
k_inout = record { class_is = refl; is_name = record { form = refl; lower = refl } }

pub k_call : Keyword (codes "call") class.Call
unfolding text_class
k_call = record { class_is = refl; is_name = record { form = refl; lower = refl } }

pub k_if : Keyword (codes "if") class.If
unfolding text_class
k_if = record { class_is = refl; is_name = record { form = refl; lower = refl } }

pub k_then : Keyword (codes "then") class.Then
unfolding text_class
k_then = record { class_is = refl; is_name = record { form = refl; lower = refl } }

pub k_else : Keyword (codes "else") class.Else
unfolding text_class
k_else = record { class_is = refl; is_name = record { form = refl; lower = refl } }

pub k_do : Keyword (codes "do") class.Do
unfolding text_class
k_do = record { class_is = refl; is_name = record { form = refl; lower = refl } }

pub k_exit : Keyword (codes "exit") class.Exit
unfolding text_class
k_exit = record { class_is = refl; is_name = record { form = refl; lower = refl } }

pub k_cycle : Keyword (codes "cycle") class.Cycle
unfolding text_class
k_cycle = record { class_is = refl; is_name = record { form = refl; lower = refl } }

pub k_return : Keyword (codes "return") class.Return
unfolding text_class
k_return = record { class_is = refl; is_name = record { form = refl; lower = refl } }

pub k_select : Keyword (codes "select") class.Select
unfolding text_class
k_select = record { class_is = refl; is_name = record { form = refl; lower = refl } }

pub k_case : Keyword (codes "case") class.Case
unfolding text_class
k_case = record { class_is = refl; is_name = record { form = refl; lower = refl } }

pub k_default : Keyword (codes "default") class.Default
unfolding text_class
k_default = record { class_is = refl; is_name = record { form = refl; lower = refl } }
