-- Around has the nodes that stay, Nodes the nodes of both trees around the cell.
pub mod Around
pub mod Nodes
