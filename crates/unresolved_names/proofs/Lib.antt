pub mod NotedNames
