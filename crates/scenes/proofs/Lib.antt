mod PieceFacts
