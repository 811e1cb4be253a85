-- The nodes that occur in the tokens, and the machine on them.
use Rattle.std.proofs.Common.{◌≡◌, Bool, true, false, List, ◌∷◌, refl, ap, ◌≤◌, lit≤, arith}
use Rattle.starlark_lexer.specs.Tokens.{Lexeme, lexeme}
use Rattle.starlark_lexer.specs.Tokens as tokens
use Rattle.starlark_lexer.specs.declared.kind.Kind.{Kind}
use Rattle.starlark_lexer.specs.declared.kind.Kind.TheVariants as kinds
use Rattle.starlark_spec.specs.Items.{Ending}
use Rattle.starlark_spec.specs.Grammar.{Nonterminal, Derivation, assign_token, right_side, yield_of, side_yield, sign_side}
use Rattle.starlark_spec.specs.Grammar as G
use Rattle.starlark_lexer.specs.Kinds.{is}
use Rattle.starlark_spec.specs.Machine.States.{Place, module_root}
use Rattle.starlark_spec.specs.Machine.States as M
use Rattle.starlark_spec.specs.Machine.Sight.{look}
use Rattle.starlark_spec.specs.Machine.Firsts.{starts_small, starts_test, starts_or, starts_operand}
use Rattle.starlark_spec.specs.Machine.Moves.{Keep, move, move_stmt, move_unary}
use Rattle.starlark_spec.specs.Machine.ReadParts.{seen_at}
use Rattle.starlark_spec.specs.Machine.BindingPower.{binding_power}
use Rattle.starlark_lexer.proofs.KindTests.{is_true, differs}
use Rattle.starlark_spec.specs.Machine.Steps.{start, Reaches, here, more, config}
use Rattle.std.specs.Bool.{⊤}
use Rattle.starlark_spec.proofs.Constructors.{not_true}
use Rattle.starlark_spec.proofs.Blocks.{opened, none_before, none_after, none_obeys, Nowhere}
use Rattle.starlark_spec.proofs.Runs.{trans, leaves}
use Rattle.starlark_spec.proofs.Complete.{starts, starts_stmt, starts_block, small_stmt, for_stmt, small_suite, stmt_block, not_else, stmt_is_simple}
use Rattle.starlark_spec.proofs.Complete.{block_goes_on, newlines_first, annotation_over, colon_after_return, Closes, Before, closing, test_small}
use Rattle.starlark_spec.proofs.Complete.{small_is_list, semicolon_after_all, list_ended, annotation_after, list_before, reads_annotation, reads_assign}
use Rattle.starlark_spec.proofs.Complete.{EndsList, comma_after, in_after, reads_element, reads_entry, first, complete, atom_operand, operand_or, or_test}
use Rattle.starlark_spec.proofs.Complete.{test_sub, test_argument, atom_unsigned, operator_powers, settle, reads_right, sign_powers, reads_sign, reads_unary}
use Rattle.starlark_spec.proofs.Complete.{reads_list_element, reads_name}

-- what follows a list that is assigned to: an annotation, or the operator of the assignment
abbrev pub starts_annotation : Kind → Bool
starts_annotation kinds.Colon = true
starts_annotation kinds.Equal = true
starts_annotation kinds.PlusEqual = true
starts_annotation kinds.MinusEqual = true
starts_annotation kinds.StarEqual = true
starts_annotation kinds.SlashEqual = true
starts_annotation kinds.SlashSlashEqual = true
starts_annotation kinds.PercentEqual = true
starts_annotation kinds.AmpersandEqual = true
starts_annotation kinds.PipeEqual = true
starts_annotation kinds.CaretEqual = true
starts_annotation kinds.LessLessEqual = true
starts_annotation kinds.GreaterGreaterEqual = true
starts_annotation _ = false

list_annotated : (d : Derivation G.TestList) (k : Kind) → starts_annotation k ≡ true → EndsList d k
list_annotated d kinds.Colon h = list_ended d kinds.Colon (lit≤ tt) refl refl
list_annotated d kinds.Equal h = list_ended d kinds.Equal (lit≤ tt) refl refl
list_annotated d kinds.PlusEqual h = list_ended d kinds.PlusEqual (lit≤ tt) refl refl
list_annotated d kinds.MinusEqual h = list_ended d kinds.MinusEqual (lit≤ tt) refl refl
list_annotated d kinds.StarEqual h = list_ended d kinds.StarEqual (lit≤ tt) refl refl
list_annotated d kinds.SlashEqual h = list_ended d kinds.SlashEqual (lit≤ tt) refl refl
list_annotated d kinds.SlashSlashEqual h = list_ended d kinds.SlashSlashEqual (lit≤ tt) refl refl
list_annotated d kinds.PercentEqual h = list_ended d kinds.PercentEqual (lit≤ tt) refl refl
list_annotated d kinds.AmpersandEqual h = list_ended d kinds.AmpersandEqual (lit≤ tt) refl refl
list_annotated d kinds.PipeEqual h = list_ended d kinds.PipeEqual (lit≤ tt) refl refl
list_annotated d kinds.CaretEqual h = list_ended d kinds.CaretEqual (lit≤ tt) refl refl
list_annotated d kinds.LessLessEqual h = list_ended d kinds.LessLessEqual (lit≤ tt) refl refl
list_annotated d kinds.GreaterGreaterEqual h = list_ended d kinds.GreaterGreaterEqual (lit≤ tt) refl refl
list_annotated d k h = not_true h

annotated : {b : Nonterminal} (d : Derivation G.TestList) (p : Place b G.Small) (x : Lexeme) (k : Kind) (w : Bool) → starts_annotation k ≡ true
    → move (M.done d (M.small_list_at p)) (record { kind = k; first = x; no_memory = w }) ≡ Keep (M.read G.Annotation (M.assign_annotation_at d p))
annotated d p x kinds.Colon w h = refl
annotated d p x kinds.Equal w h = refl
annotated d p x kinds.PlusEqual w h = refl
annotated d p x kinds.MinusEqual w h = refl
annotated d p x kinds.StarEqual w h = refl
annotated d p x kinds.SlashEqual w h = refl
annotated d p x kinds.SlashSlashEqual w h = refl
annotated d p x kinds.PercentEqual w h = refl
annotated d p x kinds.AmpersandEqual w h = refl
annotated d p x kinds.PipeEqual w h = refl
annotated d p x kinds.CaretEqual w h = refl
annotated d p x kinds.LessLessEqual w h = refl
annotated d p x kinds.GreaterGreaterEqual w h = refl
annotated d p x k w h = not_true h

-- what a node of a nonterminal begins with, if a rule is about it, or otherwise what any does
abbrev pub due : Nonterminal → Kind → Bool
due G.Conversion k = is k kinds.FStringBang
due G.Annotation k = starts_annotation k
due G.Newlines k = starts_block k
due n k = starts n k

bang_powers : (k : Kind) → is k kinds.FStringBang ≡ true → binding_power k ≤ 0
bang_powers k h = omega (arith, ap binding_power (is_true k kinds.FStringBang h))

module _ (z : Ending) where
  -- a derivation without a block that lacks its Dedent may come before anything that does not continue it
  pub stands : {n : Nonterminal} (d : Derivation n) (r : List Lexeme) → opened (right_side d) 0 ≡ 0 → Before z n (look z r).kind → Closes d z r
  stands d r o g = closing z Nowhere (λ q e. absurd e) d r ⊤ (none_obeys Nowhere (right_side d) r ⊤ o tt) g

  -- the machine reaches each place, if the tokens are those before it and its nonterminal may begin
  pub arrives : {n : Nonterminal} (p : Place G.Module n) (r : List Lexeme) → due n (look z r).kind ≡ true → opened (seen_at p) 0 ≡ 0
      → Reaches z (config start (side_yield (seen_at p) r)) (config (M.read n p) r)
  arrives (M.top module_root) r h cl = here
  arrives (M.module_stmt_at m p) r h cl =
      trans (arrives p _ refl (none_before (seen_at p) _ cl)) (trans (complete z m p r (stands m r (none_after (seen_at p) _ cl) (not_else (look z r).kind h)))
      (more (rw (differs starts_stmt (look z r).kind kinds.End h refl, differs starts_stmt (look z r).kind kinds.Newline h refl) here)))
  arrives (M.stmt_simple_at p) r h cl =
      trans (arrives p r (small_stmt (look z r).kind h) (none_before (seen_at p) _ cl)) (leaves r (stmt_is_simple p (look z r).first (look z r).kind h) here)
  arrives (M.def_parameters_at d text i b p) r h cl = trans (arrives p _ refl (none_before (seen_at p) _ cl)) (more (more (more here)))
  arrives (M.def_return_type_at d text i b ps c p) r h cl =
      trans (arrives p _ refl (none_before (seen_at p) _ cl))
      (more (more (more (trans (complete z ps _ _ ((lit≤ tt, refl, refl, refl), refl, refl)) (more (more here))))))
  arrives (M.def_suite_at d text i b ps c t k p) r h cl =
      trans (arrives p _ refl (none_before (seen_at p) _ cl))
      (more (more (more (trans (complete z ps _ _ ((lit≤ tt, refl, refl, refl), refl, refl))
      (more (more (trans (complete z t _ _ (colon_after_return t)) (more (more here)))))))))
  arrives (M.if_test_at i p) r h cl = trans (arrives p _ refl (none_before (seen_at p) _ cl)) (more here)
  arrives (M.if_suite_at i d c p) r h cl = trans (arrives p _ refl (none_before (seen_at p) _ cl))
      (more (trans (complete z d _ _ (lit≤ tt)) (more (more here))))
  arrives (M.if_rest_at i d c s p) r h cl =
      trans (arrives p _ refl (none_before (seen_at p) _ cl))
      (more (trans (complete z d _ _ (lit≤ tt)) (more (more
      (trans (complete z s _ r (stands s r (none_after (right_side d) _ (none_after (seen_at p) _ cl)) tt)) (more here))))))
  arrives (M.stmt_for_at p) r h cl =
      trans (arrives p r (for_stmt (look z r).kind h) (none_before (seen_at p) _ cl))
      (leaves r (ap (move_stmt p (look z r).first) (is_true (look z r).kind kinds.For h)) here)
  arrives (M.for_vars_at f p) r h cl = trans (arrives p _ refl (none_before (seen_at p) _ cl)) (more here)
  arrives (M.for_source_at f d i p) r h cl = trans (arrives p _ refl (none_before (seen_at p) _ cl))
      (more (trans (complete z d _ _ (in_after d)) (more (more here))))
  arrives (M.for_suite_at f d i e c p) r h cl =
      trans (arrives p _ refl (none_before (seen_at p) _ cl))
      (more (trans (complete z d _ _ (in_after d)) (more (more (trans (complete z e _ _ (lit≤ tt)) (more (more here)))))))
  arrives (M.elif_test_at i p) r h cl = trans (arrives p _ refl (none_before (seen_at p) _ cl)) (more here)
  arrives (M.elif_suite_at i d c p) r h cl = trans (arrives p _ refl (none_before (seen_at p) _ cl))
      (more (trans (complete z d _ _ (lit≤ tt)) (more (more here))))
  arrives (M.elif_rest_at i d c s p) r h cl =
      trans (arrives p _ refl (none_before (seen_at p) _ cl))
      (more (trans (complete z d _ _ (lit≤ tt)) (more (more
      (trans (complete z s _ r (stands s r (none_after (right_side d) _ (none_after (seen_at p) _ cl)) tt)) (more here))))))
  arrives (M.else_suite_at i c p) r h cl = trans (arrives p _ refl (none_before (seen_at p) _ cl)) (more (more here))
  arrives (M.suite_simple_at p) r h cl =
      trans (arrives p r (small_suite (look z r).kind h) (none_before (seen_at p) _ cl))
      (more (rw (differs starts_small (look z r).kind kinds.Newline h refl) here))
  arrives (M.suite_newlines_at n p) r h cl = trans (arrives p _ refl (none_before (seen_at p) _ cl)) (more here)
  arrives (M.suite_block_at n d i p) r h cl = trans (arrives p _ refl (none_before (seen_at p) _ cl))
      (more (trans (complete z d _ _ tt) (more (more (more here)))))
  arrives (M.block_newlines_at p) r h cl = trans (arrives p r h (none_before (seen_at p) _ cl)) (more here)
  arrives (M.block_first_at d p) r h cl =
      trans (arrives p _ (newlines_first z d r (stmt_block (look z r).kind h)) (none_before (seen_at p) _ cl))
      (more (trans (complete z d _ r tt) (more (rw (differs starts_stmt (look z r).kind kinds.Newline h refl) (more here)))))
  arrives (M.block_stmt_at b p) r h cl =
      trans (arrives p _ (first z b r) (none_before (seen_at p) _ cl))
      (trans (complete z b p r (stands b r (none_after (seen_at p) _ cl) (not_else (look z r).kind h)))
      (leaves r (block_goes_on b p (look z r).first (look z r).kind h) here))
  arrives (M.return_type_note_at a p) r h cl = trans (arrives p _ refl (none_before (seen_at p) _ cl)) (more here)
  arrives (M.args_annotation_at s text i p) r h cl = trans (arrives p _ refl (none_before (seen_at p) _ cl)) (more (more here))
  arrives (M.kwargs_annotation_at s text i p) r h cl = trans (arrives p _ refl (none_before (seen_at p) _ cl)) (more (more here))
  arrives (M.def_param_annotation_at text i p) r h cl = trans (arrives p _ refl (none_before (seen_at p) _ cl)) (more here)
  arrives (M.def_param_default_at text i d e p) r h cl =
      trans (arrives p _ refl (none_before (seen_at p) _ cl)) (more (trans (complete z d _ _ (annotation_over d kinds.Equal (lit≤ tt) refl)) (more here)))
  arrives (M.simple_smalls_at p) r h cl = trans (arrives p r h (none_before (seen_at p) _ cl)) (more here)
  arrives (M.smalls_one_at p) r h cl = trans (arrives p r h (none_before (seen_at p) _ cl)) (more here)
  arrives (M.smalls_more_at d s (M.simple_smalls_at p)) r h cl =
      trans (arrives (M.simple_smalls_at p) _ (first z d _) (none_before (seen_at (M.simple_smalls_at p)) _ cl))
      (trans (complete z d _ _ (semicolon_after_all d)) (more (more (rw h here))))
  arrives (M.smalls_more_at d s (M.left_first_at u p)) r h cl = elim u [ ]
  arrives (M.smalls_more_at d s (M.left_right_at u e o i p)) r h cl = elim u [ ]
  arrives (M.smalls_more_at d s (M.comma_list_one_at u p)) r h cl = elim u [ ]
  arrives (M.smalls_more_at d s (M.comma_list_more_at u e i p)) r h cl = elim u [ ]
  arrives (M.return_value_at s p) r h cl = trans (arrives p _ refl (none_before (seen_at p) _ cl)) (more (more (rw h here)))
  arrives (M.load_symbols_at l o text i p) r h cl = trans (arrives p _ refl (none_before (seen_at p) _ cl)) (more (more (more here)))
  arrives (M.small_list_at p) r h cl = trans (arrives p r (test_small (look z r).kind h) (none_before (seen_at p) _ cl))
      (leaves r (small_is_list p (look z r).first (look z r).kind h) here)
  arrives (M.assign_annotation_at d p) r h cl =
      trans (arrives p (yield_of d r) (test_small (look z (yield_of d r)).kind (first z d r)) (none_before (seen_at p) _ cl))
      (trans (leaves (yield_of d r) (small_is_list p (look z (yield_of d r)).first (look z (yield_of d r)).kind (first z d r)) here)
      (trans (complete z d _ r (list_annotated d (look z r).kind h)) (leaves r (annotated d p (look z r).first (look z r).kind (look z r).no_memory h) here)))
  arrives (M.assign_value_at d n o s p) r h cl =
      let q : List Lexeme = yield_of n (lexeme (assign_token o) s ∷ r) in
      trans (arrives p (yield_of d q) (test_small (look z (yield_of d q)).kind (first z d q)) (none_before (seen_at p) _ cl))
      (trans (leaves (yield_of d q) (small_is_list p (look z (yield_of d q)).first (look z (yield_of d q)).kind (first z d q)) here)
      (trans (complete z d _ _ (list_before z d n o s r))
      (trans (reads_annotation z d n o s p r) (trans (complete z n _ _ (annotation_after n o)) (reads_assign z d n o s p r)))))
  arrives (M.list_elements_at p) r h cl = trans (arrives p r h (none_before (seen_at p) _ cl)) (more here)
  arrives (M.annotation_note_at c p) r h cl = trans (arrives p _ refl (none_before (seen_at p) _ cl)) (more here)
  arrives (M.note_test_at p) r h cl = trans (arrives p r h (none_before (seen_at p) _ cl)) (more here)
  arrives (M.symbols_list_at c p) r h cl = trans (arrives p _ refl (none_before (seen_at p) _ cl)) (more here)
  arrives (M.test_or_at p) r h cl = trans (arrives p r (or_test (look z r).kind h) (none_before (seen_at p) _ cl))
      (more (rw (differs starts_or (look z r).kind kinds.Lambda h refl) here))
  arrives (M.test_if_at d i p) r h cl =
      let q : List Lexeme = lexeme tokens.If i ∷ r in
      trans (arrives p (yield_of d q) (or_test (look z (yield_of d q)).kind (first z d q)) (none_before (seen_at p) _ cl))
      (more (rw (differs starts_or (look z (yield_of d q)).kind kinds.Lambda (first z d q) refl)
      (trans (settle z G.or_precedence _ d q (lit≤ tt) (complete z d _ q (lit≤ tt))) (more here))))
  arrives (M.test_else_at d i c e p) r h cl =
      let s : List Lexeme = lexeme tokens.Else e ∷ r in
      let q : List Lexeme = lexeme tokens.If i ∷ yield_of c s in
      trans (arrives p (yield_of d q) (or_test (look z (yield_of d q)).kind (first z d q)) (none_before (seen_at p) _ cl))
      (more (rw (differs starts_or (look z (yield_of d q)).kind kinds.Lambda (first z d q) refl)
      (trans (settle z G.or_precedence _ d q (lit≤ tt) (complete z d _ q (lit≤ tt)))
      (more (trans (settle z G.or_precedence _ c s (lit≤ tt) (complete z c _ s (lit≤ tt))) (more (more here)))))))
  arrives (M.lambda_parameters_at s p) r h cl = trans (arrives p _ refl (none_before (seen_at p) _ cl)) (more here)
  arrives (M.lambda_body_at s d c p) r h cl = trans (arrives p _ refl (none_before (seen_at p) _ cl))
      (more (trans (complete z d _ _ ((lit≤ tt, refl, refl), refl, refl)) (more (more here))))
  arrives (M.left_first_at G.of_or p) r h cl = trans (arrives p r h (none_before (seen_at p) _ cl)) (more here)
  arrives (M.left_first_at G.of_and p) r h cl = trans (arrives p r h (none_before (seen_at p) _ cl)) (more here)
  arrives (M.left_first_at G.of_bit_or p) r h cl = trans (arrives p r h (none_before (seen_at p) _ cl)) (more here)
  arrives (M.left_first_at G.of_xor p) r h cl = trans (arrives p r h (none_before (seen_at p) _ cl)) (more here)
  arrives (M.left_first_at G.of_bit_and p) r h cl = trans (arrives p r h (none_before (seen_at p) _ cl)) (more here)
  arrives (M.left_first_at G.of_shift p) r h cl = trans (arrives p r h (none_before (seen_at p) _ cl)) (more here)
  arrives (M.left_first_at G.of_add p) r h cl = trans (arrives p r h (none_before (seen_at p) _ cl)) (more here)
  arrives (M.left_first_at G.of_multiply p) r h cl = trans (arrives p r h (none_before (seen_at p) _ cl)) (more here)
  arrives (M.left_right_at u d o s p) r h cl = trans (arrives p _ (first z d _) (none_before (seen_at p) _ cl))
      (trans (complete z d p _ (operator_powers o)) (reads_right z u d o s p r))
  arrives (M.not_not_at s p) r h cl = trans (arrives p _ refl (none_before (seen_at p) _ cl)) (more here)
  arrives (M.not_comp_at p) r h cl = trans (arrives p r (operand_or (look z r).kind h) (none_before (seen_at p) _ cl))
      (more (rw (differs starts_operand (look z r).kind kinds.Not h refl) here))
  arrives (M.comp_first_at p) r h cl = trans (arrives p r h (none_before (seen_at p) _ cl)) (more here)
  arrives (M.comp_right_at d o p) r h cl =
      let q : List Lexeme = side_yield (sign_side o) r in
      trans (arrives p _ (first z d q) (none_before (seen_at p) _ cl))
      (more (trans (settle z G.bit_or_precedence _ d q (sign_powers z o r) (complete z d _ q (omega (arith, sign_powers z o r)))) (reads_sign z d o p r)))
  arrives (M.unary_sign_at G.plus_sign s p) r h cl = trans (arrives p _ refl (none_before (seen_at p) _ cl)) (reads_unary z G.plus_sign s p r)
  arrives (M.unary_sign_at G.minus_sign s p) r h cl = trans (arrives p _ refl (none_before (seen_at p) _ cl)) (reads_unary z G.minus_sign s p r)
  arrives (M.unary_sign_at G.tilde_sign s p) r h cl = trans (arrives p _ refl (none_before (seen_at p) _ cl)) (reads_unary z G.tilde_sign s p r)
  arrives (M.unary_primary_at p) r h cl =
      trans (arrives p r (atom_operand (look z r).kind h) (none_before (seen_at p) _ cl))
      (leaves r (ap (move_unary p (look z r).first.span) (atom_unsigned (look z r).kind h)) here)
  arrives (M.primary_atom_at p) r h cl = trans (arrives p r h (none_before (seen_at p) _ cl)) (more here)
  arrives (M.primary_subscript_at d o p) r h cl = trans (arrives p _ (first z d _) (none_before (seen_at p) _ cl))
      (trans (complete z d p _ (lit≤ tt)) (more here))
  arrives (M.primary_call_at d o p) r h cl = trans (arrives p _ (first z d _) (none_before (seen_at p) _ cl)) (trans (complete z d p _ (lit≤ tt)) (more here))
  arrives (M.sub_first_at p) r h cl = trans (arrives p r (test_sub (look z r).kind h) (none_before (seen_at p) _ cl)) (more (rw h here))
  arrives (M.sub_two_at d c p) r h cl =
      let q : List Lexeme = lexeme tokens.Comma c ∷ r in
      trans (arrives p _ (test_sub (look z (yield_of d q)).kind (first z d q)) (none_before (seen_at p) _ cl))
      (more (rw (first z d q) (trans (complete z d _ q (lit≤ tt)) (more here))))
  arrives (M.sub_stop_at G.bound_none c p) r h cl = trans (arrives p _ refl (none_before (seen_at p) _ cl)) (more (more here))
  arrives (M.sub_stop_at (G.bound_test d) c p) r h cl =
      let q : List Lexeme = lexeme tokens.Colon c ∷ r in
      trans (arrives p _ (test_sub (look z (yield_of d q)).kind (first z d q)) (none_before (seen_at p) _ cl))
      (more (rw (first z d q) (trans (complete z d _ q (lit≤ tt)) (more here))))
  arrives (M.sub_step_at G.bound_none c e s p) r h cl = trans (arrives p _ refl (none_before (seen_at p) _ cl))
      (more (more (trans (complete z e _ _ (lit≤ tt, refl)) (more here))))
  arrives (M.sub_step_at (G.bound_test d) c e s p) r h cl =
      let q : List Lexeme = lexeme tokens.Colon c ∷ yield_of e (lexeme tokens.Colon s ∷ r) in
      trans (arrives p _ (test_sub (look z (yield_of d q)).kind (first z d q)) (none_before (seen_at p) _ cl))
      (more (rw (first z d q) (trans (complete z d _ q (lit≤ tt)) (more (trans (complete z e _ _ (lit≤ tt, refl)) (more here))))))
  arrives (M.bound_test_at p) r h cl = trans (arrives p r refl (none_before (seen_at p) _ cl)) (more (rw h here))
  arrives (M.arg_test_at p) r h cl =
      trans (arrives p r (test_argument (look z r).kind h) (none_before (seen_at p) _ cl))
      (more (rw (differs starts_test (look z r).kind kinds.Star h refl, differs starts_test (look z r).kind kinds.StarStar h refl) here))
  arrives (M.arg_named_at t s e p) r h cl = trans (arrives p _ refl (none_before (seen_at p) _ cl))
      (more (trans (reads_name z t s e (M.arg_test_at p) r) (more here)))
  arrives (M.arg_star_at s p) r h cl = trans (arrives p _ refl (none_before (seen_at p) _ cl)) (more here)
  arrives (M.arg_stars_at s p) r h cl = trans (arrives p _ refl (none_before (seen_at p) _ cl)) (more here)
  arrives (M.entry_key_at p) r h cl = trans (arrives p r h (none_before (seen_at p) _ cl)) (more here)
  arrives (M.entry_value_at d c p) r h cl = trans (arrives p _ (first z d _) (none_before (seen_at p) _ cl))
      (more (trans (complete z d _ _ (lit≤ tt)) (more (more here))))
  arrives (M.lambda_param_default_at t i e p) r h cl = trans (arrives p _ refl (none_before (seen_at p) _ cl)) (more (more here))
  arrives (M.atom_round_at o p) r h cl = trans (arrives p _ refl (none_before (seen_at p) _ cl)) (more here)
  arrives (M.atom_square_at o p) r h cl = trans (arrives p _ refl (none_before (seen_at p) _ cl)) (more here)
  arrives (M.atom_curly_at o p) r h cl = trans (arrives p _ refl (none_before (seen_at p) _ cl)) (more here)
  arrives (M.list_clauses_at o d p) r h cl =
      let f : (look z r).kind ≡ kinds.For = is_true (look z r).kind kinds.For h in
      trans (arrives p _ refl (none_before (seen_at p) _ cl))
      (more (trans (reads_element z d (M.atom_square_at o p) r f (complete z d _ r (rw f (lit≤ tt)))) (more (rw f here))))
  arrives (M.dict_clauses_at o d p) r h cl =
      let f : (look z r).kind ≡ kinds.For = is_true (look z r).kind kinds.For h in
      trans (arrives p _ refl (none_before (seen_at p) _ cl))
      (more (trans (reads_entry z d (M.atom_curly_at o p) r f (complete z d _ r (rw f (lit≤ tt)))) (more (rw f here))))
  arrives (M.vars_elements_at p) r h cl = trans (arrives p r h (none_before (seen_at p) _ cl)) (more here)
  arrives (M.clause_vars_at f p) r h cl = trans (arrives p _ refl (none_before (seen_at p) _ cl)) (more here)
  arrives (M.clause_source_at f d i p) r h cl = trans (arrives p _ refl (none_before (seen_at p) _ cl))
      (more (trans (complete z d _ _ (in_after d)) (more (more here))))
  arrives (M.clauses_one_at p) r h cl = trans (arrives p r h (none_before (seen_at p) _ cl)) (more here)
  arrives (M.clauses_for_at d p) r h cl =
      let f : (look z r).kind ≡ kinds.For = is_true (look z r).kind kinds.For h in
      trans (arrives p _ (first z d _) (none_before (seen_at p) _ cl)) (trans (complete z d p r (rw f (lit≤ tt))) (more (rw f here)))
  arrives (M.clauses_if_at d i p) r h cl = trans (arrives p _ (first z d _) (none_before (seen_at p) _ cl)) (trans (complete z d p _ (lit≤ tt)) (more here))
  arrives (M.parts_at q s p) r h cl = trans (arrives p _ refl (none_before (seen_at p) _ cl)) (more here)
  arrives (M.replacement_at d o p) r h cl = trans (arrives p _ refl (none_before (seen_at p) _ cl)) (trans (complete z d p _ tt) (more here))
  arrives (M.conversion_at d o e p) r h cl = trans (arrives p _ refl (none_before (seen_at p) _ cl))
      (trans (complete z d p _ tt) (more (trans (complete z e _ r (bang_powers (look z r).kind h)) (more here))))
  arrives (M.comma_list_at p) r h cl = trans (arrives p r refl (none_before (seen_at p) _ cl)) (more (rw h here))
  arrives (M.comma_list_one_at G.of_elements p) r h cl = trans (arrives p r h (none_before (seen_at p) _ cl)) (reads_list_element z G.of_elements p r)
  arrives (M.comma_list_one_at G.of_arguments p) r h cl = trans (arrives p r h (none_before (seen_at p) _ cl)) (reads_list_element z G.of_arguments p r)
  arrives (M.comma_list_one_at G.of_entries p) r h cl = trans (arrives p r h (none_before (seen_at p) _ cl)) (reads_list_element z G.of_entries p r)
  arrives (M.comma_list_one_at G.of_lambda_parameters p) r h cl = trans (arrives p r h (none_before (seen_at p) _ cl))
      (reads_list_element z G.of_lambda_parameters p r)
  arrives (M.comma_list_one_at G.of_variables p) r h cl = trans (arrives p r h (none_before (seen_at p) _ cl)) (reads_list_element z G.of_variables p r)
  arrives (M.comma_list_one_at G.of_def_parameters p) r h cl = trans (arrives p r h (none_before (seen_at p) _ cl))
      (reads_list_element z G.of_def_parameters p r)
  arrives (M.comma_list_one_at G.of_symbols p) r h cl = trans (arrives p r h (none_before (seen_at p) _ cl)) (reads_list_element z G.of_symbols p r)
  arrives (M.comma_list_more_at G.of_elements d c (M.comma_list_at p)) r h cl =
      trans (arrives (M.comma_list_at p) _ (first z d _) (none_before (seen_at (M.comma_list_at p)) _ cl))
      (trans (complete z d _ _ (comma_after G.elements)) (more (more (rw h here))))
  arrives (M.comma_list_more_at G.of_arguments d c (M.comma_list_at p)) r h cl =
      trans (arrives (M.comma_list_at p) _ (first z d _) (none_before (seen_at (M.comma_list_at p)) _ cl))
      (trans (complete z d _ _ (comma_after G.arguments)) (more (more (rw h here))))
  arrives (M.comma_list_more_at G.of_entries d c (M.comma_list_at p)) r h cl =
      trans (arrives (M.comma_list_at p) _ (first z d _) (none_before (seen_at (M.comma_list_at p)) _ cl))
      (trans (complete z d _ _ (comma_after G.entries)) (more (more (rw h here))))
  arrives (M.comma_list_more_at G.of_lambda_parameters d c (M.comma_list_at p)) r h cl =
      trans (arrives (M.comma_list_at p) _ (first z d _) (none_before (seen_at (M.comma_list_at p)) _ cl))
      (trans (complete z d _ _ (comma_after G.lambda_parameters)) (more (more (rw h here))))
  arrives (M.comma_list_more_at G.of_variables d c (M.comma_list_at p)) r h cl =
      trans (arrives (M.comma_list_at p) _ (first z d _) (none_before (seen_at (M.comma_list_at p)) _ cl))
      (trans (complete z d _ _ (comma_after G.variables)) (more (more (rw h here))))
  arrives (M.comma_list_more_at G.of_def_parameters d c (M.comma_list_at p)) r h cl =
      trans (arrives (M.comma_list_at p) _ (first z d _) (none_before (seen_at (M.comma_list_at p)) _ cl))
      (trans (complete z d _ _ (comma_after G.def_parameters))
      (more (more (rw h here))))
  arrives (M.comma_list_more_at G.of_symbols d c (M.comma_list_at p)) r h cl =
      trans (arrives (M.comma_list_at p) _ (first z d _) (none_before (seen_at (M.comma_list_at p)) _ cl))
      (trans (complete z d _ _ (comma_after G.symbols)) (more (more (rw h here))))
  arrives (M.comma_list_more_at G.of_elements d c (M.list_elements_at p)) r h cl =
      trans (arrives (M.list_elements_at p) _ (first z d _) (none_before (seen_at (M.list_elements_at p)) _ cl))
      (trans (complete z d _ _ (comma_after G.elements)) (more (more (rw h here))))
  arrives (M.comma_list_more_at G.of_variables d c (M.vars_elements_at p)) r h cl =
      trans (arrives (M.vars_elements_at p) _ (first z d _) (none_before (seen_at (M.vars_elements_at p)) _ cl))
      (trans (complete z d _ _ (comma_after G.variables)) (more (more (rw h here))))
  arrives (M.comma_list_more_at v d c (M.left_first_at u p)) r h cl = elim u [ ]
  arrives (M.comma_list_more_at v d c (M.left_right_at u e o s p)) r h cl = elim u [ ]
  arrives (M.comma_list_more_at v d c (M.comma_list_one_at u p)) r h cl = elim u [ ]
  arrives (M.comma_list_more_at v d c (M.comma_list_more_at u e s p)) r h cl = elim u [ ]
