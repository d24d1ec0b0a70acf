-- How the payload of each kind is read, and in which role the records inside it stand.
use Rattle.fields.specs.declared.Body.{Body}
use Rattle.std.specs.Prelude.{ℕ, List, [], ◌∷◌, get_or, Option, Some, None}
use Rattle.fields.specs.declared.Role.{Role}
use Rattle.fields.specs.declared.Role.TheVariants.{Node, Branch, Cond, Visited, Argument, Unvisited}
use Rattle.fields.specs.declared.Body.TheVariants.{Exprs, Single, Call, Conditional, Switch, Sequence, Assign, Choice}

-- expressions: 0 constant, 1 Variable, 2 DivertTarget, 3 Negate, 4 Not, 5 FunctionCall, 6 Binary; those inside have the role r
abbrev pub expr_kinds : Role → List (Option Body)
expr_kinds r =
    Some (Exprs 0 r)
    ∷ Some Single
    ∷ Some Single
    ∷ Some (Exprs 1 r)
    ∷ Some (Exprs 1 r)
    ∷ Some (Call r)
    ∷ Some (Exprs 2 r)
    ∷ []

-- an expression by its kind
unfoldable pub expr_kind : Role → ℕ → Option Body
expr_kind r k = get_or (expr_kinds r) k None

-- conditions: 0 Bool, 1 FunctionCall, 2 Expression
abbrev pub cond_kinds : List (Option Body)
cond_kinds = Some (Exprs 0 Visited) ∷ Some Single ∷ Some (Exprs 1 Visited) ∷ []

-- a condition by its kind
unfoldable pub cond_kind : ℕ → Option Body
cond_kind k = get_or cond_kinds k None

-- nodes: 0 plain, 1 Newline, 2 OutputExpression, 3 Divert, 4 TunnelDivert, 5 ThreadDivert, 6 TunnelReturn, 7 TunnelOnwardsWithTarget,
-- 8 Conditional, 9 SwitchConditional, 10 Sequence, 11 ReturnBool, 12 ReturnExpr, 13 Assignment, 14 Choice, 15 GatherLabel, 16 VoidCall
abbrev pub node_kinds : List (Option Body)
node_kinds =
    Some (Exprs 0 Visited)
    ∷ Some (Exprs 0 Visited)
    ∷ Some (Exprs 1 Visited)
    ∷ Some (Call Argument)
    ∷ Some (Call Argument)
    ∷ Some (Call Argument)
    ∷ Some (Exprs 0 Visited)
    ∷ Some (Call Unvisited)
    ∷ Some Conditional
    ∷ Some Switch
    ∷ Some Sequence
    ∷ Some (Exprs 0 Visited)
    ∷ Some (Exprs 1 Visited)
    ∷ Some Assign
    ∷ Some Choice
    ∷ Some Single
    ∷ Some (Call Visited)
    ∷ []

-- a node by its kind
unfoldable pub node_kind : ℕ → Option Body
node_kind k = get_or node_kinds k None

-- what is inside an argument of a divert is visited by no step
unfoldable pub kind_of : Role → ℕ → Option Body
kind_of Node k = node_kind k
kind_of Branch k = node_kind k
kind_of Cond k = cond_kind k
kind_of Visited k = expr_kind Visited k
kind_of Argument k = expr_kind Unvisited k
kind_of Unvisited k = expr_kind Unvisited k
